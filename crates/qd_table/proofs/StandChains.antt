-- After a call over many keys a table stands for the moment with all of its acts.
use Rattle.std.proofs.Common.{◌≡◌, inl, inr, ℕ, zero, suc, ◌<◌, Bool, true, false, ◌&&◌, ◌||◌, not, if◌then◌else◌, nat_eq, Option, Some, None, is_some, List, [], ◌∷◌, ◌++◌, map, take, refl, ap, sym, ◌∙◌, subst}
use Rattle.std.specs.List.{filter_map, cons_option}
use Rattle.qd_scheme.specs.declared.key.Key.{Key}
use Rattle.qd_scheme.specs.Keys.{key_eq}
use Rattle.qd_scheme.proofs.KeyLaws.{key_eq-same}
use Rattle.qd_sub.specs.declared.sub.Sub.{Sub}
use Rattle.qd_sub.specs.declared.sub.Want.{Want}
use Rattle.qd_sub.specs.Acts.{Subscribed, Unsubscribed, Closed, Told, Moment, is_pair}
use Rattle.qd_sub.specs.Holding.{has_key}
use Rattle.qd_sub.specs.Logs.{after, ends_of}
use Rattle.qd_sub.specs.Subscriptions.{subscribed, keys_of}
use Rattle.qd_sub.specs.Watching.{watched}
use Rattle.qd_sub.proofs.StepLaws.{pair_eq-true, keys_of-has}
use Rattle.qd_pend.specs.Slots.{has, EachOnce}
use Rattle.qd_pend.proofs.ListLaws.{same, equal, has-here, has-later}
use Rattle.qd_slots.specs.declared.holds.Hold.{Hold}
use Rattle.qd_slots.specs.declared.holds.Hold.TheVariants.{Free, Kept, Subscribed as Active}
use Rattle.qd_slots.specs.Holds.{is_held, is_kept}
use Rattle.qd_slots.specs.Views.{view_told}
use Rattle.qd_table.specs.Tables.{Table, key_at, keys_at, slot_for, hold_for, order_of, total_for, view_for, queue_of, is_used, total_to_tell, want_for, wants_for}
use Rattle.qd_table.specs.Steps.{IsEnded, IsTold, IsAdded, IsRemoved, IsClosed, SubscribesAll, EndsAll, LetsAllGo, TellsAll}
use Rattle.qd_table.specs.Standing.{StandsFor}
use Rattle.qd_table.proofs.TableLaws.{true-false, or-left, or-right, or-cases, some-from, key_at-found, key_at-subscribed, key_at-used, used-agent}
use Rattle.qd_table.proofs.SoundSteps.{total_for-same}
use Rattle.qd_table.proofs.CallSteps.{cell-elsewhere}
use Rattle.qd_table.proofs.KeyLists.{keys-agree}
use Rattle.qd_table.proofs.StandLaws.{subscribed-table, subscribed-absent, kept-table, holds_by-none, differs-used, watched-table}
use Rattle.qd_table.proofs.StandSteps.{stands-subscribed, stands-ended}
use Rattle.qd_table.proofs.StandOthers.{stands-let_go, stands-told, stands-same, stands-keeps, stands-closed}

-- subscriptions
pub stands-subscribes : {P T : Type 0} (old new : Table) (keeps : ℕ → Key → Bool) (now : Moment P T) (a : ℕ) (subs : List Sub) → StandsFor old keeps now → a < 128 → SubscribesAll old a subs new → StandsFor new keeps (after now (map (λ s. Subscribed a s.key s.limit) subs))
unfolding SubscribesAll after
stands-subscribes old new keeps now a [] st l h = subst (λ (t : Table). StandsFor t keeps now) h st
stands-subscribes old new keeps now a (s ∷ subs) st l h =
    stands-subscribes h.1 new keeps (Subscribed a s.key s.limit ∷ now) a subs (stands-subscribed old h.1 keeps now a s.key s.limit h.0 st l h.2) l h.3

pub stands-added : {P T : Type 0} (old new : Table) (keeps : ℕ → Key → Bool) (now : Moment P T) (a : ℕ) (subs : List Sub) → StandsFor old keeps now → a < 128 → IsAdded old a subs new → StandsFor new keeps (after now (map (λ s. Subscribed a s.key s.limit) subs))
stands-added old new keeps now a subs st l h = stands-subscribes h.mid new keeps now a subs (stands-same old h.mid keeps now st h.same) l h.added

-- the end of one
pub stands-removed : {P T : Type 0} (old new : Table) (keeps keeps' : ℕ → Key → Bool) (now : Moment P T) (a : ℕ) (k : Key) (keep : Bool) → StandsFor old keeps now → IsRemoved old a k keep new →
    ((b : ℕ) (j : Key) → keeps' b j ≡ (if is_pair b j a k && subscribed a k now then keep else keeps b j)) → StandsFor new keeps' (after now (ends_of a now (k ∷ [])))
unfolding after ends_of
stands-removed old new keeps keeps' now a k keep st h kept =
    let go : (o : Option ℕ) → slot_for old k ≡ o → (c : Bool) → subscribed a k now ≡ c → StandsFor new keeps' (after now (if c then Unsubscribed a k ∷ [] else [])) =
    elim [
      | None ↦ λ e. elim [
        | true ↦ λ f. absurd (true-false (sym f ∙ subscribed-absent old keeps now st a k e))
        | false ↦ λ f. same_keeps f (h.absent e)
      ]
      | Some slot ↦ λ e. elim [
        | true ↦ λ f. (let own = key_at-found old k slot e in let sub = sym (subscribed-table old keeps now st a k slot own) ∙ f in
            stands-ended old new keeps keeps' now a k slot keep st sub own (h.ended slot e sub) (λ b j. kept b j ∙ ap (λ x. if is_pair b j a k && x then keep else keeps b j) f ∙ plain (is_pair b j a k) (keeps b j)))
        | false ↦ λ f. (let own = key_at-found old k slot e in same_keeps f (h.other slot e (sym (subscribed-table old keeps now st a k slot own) ∙ f)))
      ]
    ] in
    go (slot_for old k) refl (subscribed a k now) refl
  where
    plain : (c : Bool) (d : Bool) → (if c && true then keep else d) ≡ (if c then keep else d)
    plain true d = refl
    plain false d = refl

    never : (c : Bool) (d : Bool) → (if c && false then keep else d) ≡ d
    never true d = refl
    never false d = refl

    same_keeps : subscribed a k now ≡ false → old ≡ new → StandsFor new keeps' now
    same_keeps f e = subst (λ (t : Table). StandsFor t keeps' now) e (stands-keeps old keeps keeps' now st (λ b j. ap (λ x. subscribed b j now || x) (kept b j ∙ ap (λ x. if is_pair b j a k && x then keep else keeps b j) f ∙ never (is_pair b j a k) (keeps b j))))

-- what another slot is told stays
want-other : (old new : Table) (w slot i : ℕ) → IsTold old w slot new → nat_eq i slot ≡ false → want_for new w i ≡ want_for old w i
unfolding want_for total_to_tell
want-other old new w slot i h e =
    let key : key_at new i ≡ key_at old i = h.names i ∙ ap (λ c. if c && not (is_used new slot) then None else key_at old i) e in
    let view : view_for new w i ≡ view_for old w i = h.views w i ∙ ap (λ c. if c then view_told (total_to_tell old w slot) else view_for old w i) (cell-elsewhere w i w slot e) in
    let total : total_for new i ≡ total_for old i = total_for-same old new i (λ b. h.limits b i) in
    ap (λ o. elim o [ None ↦ None | Some k ↦ Some (let x : Want = record { key = k; total = if (view_for new w i).outdated then None else total_for new i } in x) ]) key
    ∙ ap (λ v. elim (key_at old i) [ None ↦ None | Some k ↦ Some (let x : Want = record { key = k; total = if v.outdated then None else total_for new i } in x) ]) view
    ∙ ap (λ n. elim (key_at old i) [ None ↦ None | Some k ↦ Some (let x : Want = record { key = k; total = if (view_for old w i).outdated then None else n } in x) ]) total

not-in : (slot i : ℕ) (rest : List ℕ) → has rest slot ≡ false → has rest i ≡ true → nat_eq i slot ≡ false
not-in slot i rest h t =
    let go : (c : Bool) → nat_eq i slot ≡ c → nat_eq i slot ≡ false =
    elim [ true ↦ λ e. absurd (true-false (sym t ∙ ap (has rest) (equal i slot e) ∙ h)) | false ↦ λ e. e ] in
    go (nat_eq i slot) refl

wants-same : (old new : Table) (w slot : ℕ) (list : List ℕ) → IsTold old w slot new → ((i : ℕ) → has list i ≡ true → nat_eq i slot ≡ false) → filter_map (want_for new w) list ≡ filter_map (want_for old w) list
wants-same old new w slot [] h apart = refl
wants-same old new w slot (i ∷ list) h apart =
    ap (λ o. cons_option o (filter_map (want_for new w) list)) (want-other old new w slot i h (apart i (has-here i list)))
    ∙ ap (λ ws. cons_option (want_for old w i) ws) (wants-same old new w slot list h (λ j t. apart j (has-later i list j t)))

want-of : (t : Table) (w slot : ℕ) (k : Key) → key_at t slot ≡ Some k → want_for t w slot ≡ Some (let x : Want = record { key = k; total = total_to_tell t w slot } in x)
unfolding want_for
want-of t w slot k e = ap (λ o. elim o [ None ↦ None | Some j ↦ Some (let x : Want = record { key = j; total = total_to_tell t w slot } in x) ]) e

-- tellings
pub stands-tells : {P T : Type 0} (old new : Table) (keeps : ℕ → Key → Bool) (now : Moment P T) (w : ℕ) (slots : List ℕ) → StandsFor old keeps now → w < 8 → EachOnce slots → ((i : ℕ) → has slots i ≡ true → is_some (key_at old i) ≡ true) → TellsAll old w slots new →
    StandsFor new keeps (after now (map (λ want. Told w want.key want.total) (filter_map (want_for old w) slots)))
unfolding TellsAll after EachOnce
stands-tells old new keeps now w [] st l once named h = subst (λ (t : Table). StandsFor t keeps now) h st
stands-tells {P} {T} old new keeps now w (slot ∷ slots) st l once named h =
    let own = some-from (key_at old slot) (named slot (has-here slot slots)) in
    let st' = stands-told old h.0 keeps now w own.0 slot st own.1 l h.1 in
    let rest = stands-tells h.0 new keeps (Told w own.0 (total_to_tell old w slot) ∷ now) w slots st' l once.1
    (λ i t. ap is_some (h.1.names i ∙ ap (λ c. if c && not (is_used h.0 slot) then None else key_at old i) (not-in slot i slots once.0 t)) ∙ named i (has-later slot slots i t)) h.2 in
    subst (λ (o : Option Want). StandsFor new keeps (after now (map (λ want. Told w want.key want.total) (cons_option o (filter_map (want_for old w) slots))))) (sym (want-of old w slot own.0 own.1))
    (subst (λ (ws : List Want). StandsFor new keeps (after (Told w own.0 (total_to_tell old w slot) ∷ now) (map (λ want. Told w want.key want.total) ws))) (wants-same old h.0 w slot slots h.1 (λ i t. not-in slot i slots once.0 t)) rest)

has-take : (n : ℕ) (list : List ℕ) (i : ℕ) → has (take n list) i ≡ true → has list i ≡ true
has-take zero list i h = absurd (true-false (sym h))
has-take (suc n) [] i h = absurd (true-false (sym h))
has-take (suc n) (x ∷ list) i h = elim (or-cases (nat_eq i x) (has (take n list) i) h) [
  | inl e ↦ or-left (nat_eq i x) (has list i) e
  | inr t ↦ or-right (nat_eq i x) (has list i) (has-take n list i t)
]

take-none : (n : ℕ) (list : List ℕ) (i : ℕ) → has list i ≡ false → has (take n list) i ≡ false
take-none n list i h =
    let go : (c : Bool) → has (take n list) i ≡ c → has (take n list) i ≡ false =
    elim [ true ↦ λ e. absurd (true-false (sym (has-take n list i e) ∙ h)) | false ↦ λ e. e ] in
    go (has (take n list) i) refl

once-take : (n : ℕ) (list : List ℕ) → EachOnce list → EachOnce (take n list)
unfolding EachOnce
once-take zero list o = tt
once-take (suc n) [] o = tt
once-take (suc n) (x ∷ list) o = (take-none n list x o.0, once-take n list o.1)

pub stands-watched : {P T : Type 0} (old new : Table) (keeps : ℕ → Key → Bool) (now : Moment P T) (w max : ℕ) → StandsFor old keeps now → w < 8 → TellsAll old w (take max (queue_of old w)) new → StandsFor new keeps (after now (map (λ want. Told w want.key want.total) (watched w max now)))
unfolding wants_for
stands-watched old new keeps now w max st l h =
    subst (λ (ws : List Want). StandsFor new keeps (after now (map (λ want. Told w want.key want.total) ws))) (sym (watched-table old keeps now st w max l))
    (stands-tells old new keeps now w (take max (queue_of old w)) st l (once-take max (queue_of old w) (st.sound.queued_once w l))
    (λ i t. st.sound.used i ∙ differs-used old w i st.sound (sym (st.sound.queued w i l) ∙ has-take max (queue_of old w) i t)) h)

-- all subscriptions of an agent
keys-rest : (old mid : Table) (a slot : ℕ) (rest : List ℕ) → has rest slot ≡ false → IsEnded old a slot false mid → keys_at mid rest ≡ keys_at old rest
keys-rest old mid a slot rest h k = keys-agree mid old rest (λ i t. k.names i ∙ ap (λ c. if c && not (is_used mid slot) then None else key_at old i) (not-in slot i rest h t))

pub stands-ends : {P T : Type 0} (old new : Table) (keeps : ℕ → Key → Bool) (now : Moment P T) (a : ℕ) (slots : List ℕ) → StandsFor old keeps now → EachOnce slots → ((j : Key) → has_key (keys_at old slots) j ≡ true → keeps a j ≡ false) → EndsAll old a slots new →
    StandsFor new keeps (after now (map (Unsubscribed a) (keys_at old slots)))
unfolding EndsAll after EachOnce keys_at
stands-ends old new keeps now a [] st once none h = subst (λ (t : Table). StandsFor t keeps now) h st
stands-ends {P} {T} old new keeps now a (slot ∷ slots) st once none h =
    let own = key_at-subscribed old a slot st.sound h.0 in
    let list = ap (λ o. cons_option o (filter_map (key_at old) slots)) own.1 in
    let same_keys = keys-rest old h.1 a slot slots once.0 h.2 in
    let st' = stands-ended old h.1 keeps keeps now a own.0 slot false st h.0 own.1 h.2 (λ b j. unkept own.0 (none own.0 (ap (λ ks. has_key ks own.0) list ∙ or-left (key_eq own.0 own.0) (has_key (filter_map (key_at old) slots) own.0) (key_eq-same own.0))) b j) in
    let rest = stands-ends h.1 new keeps (Unsubscribed a own.0 ∷ now) a slots st' once.1 (λ j t. none j (ap (λ ks. has_key ks j) list ∙ or-right (key_eq j own.0) (has_key (filter_map (key_at old) slots) j) (sym (ap (λ ks. has_key ks j) same_keys) ∙ t))) h.3 in
    subst (λ (ks : List Key). StandsFor new keeps (after now (map (Unsubscribed a) ks))) (sym list)
    (subst (λ (ks : List Key). StandsFor new keeps (after (Unsubscribed a own.0 ∷ now) (map (Unsubscribed a) ks))) same_keys rest)
  where
    unkept : (k : Key) → keeps a k ≡ false → (b : ℕ) (j : Key) → keeps b j ≡ (if is_pair b j a k then false else keeps b j)
    unkept k e b j =
        let go : (c : Bool) → is_pair b j a k ≡ c → keeps b j ≡ (if c then false else keeps b j) =
        elim [ true ↦ λ p. ap (λ (q : ℕ × Key). keeps q.0 q.1) (pair_eq-true (b, j) (a, k) p) ∙ e | false ↦ λ p. refl ] in
        go (is_pair b j a k) refl

-- all that an agent kept
pub record Kept_by {P T : Type 0} (t : Table) (keeps : ℕ → Key → Bool) (a : ℕ) (now : Moment P T) : Type 0 where
  pub left : ℕ → Key → Bool
  pub stands : StandsFor t left now
  pub others : (b : ℕ) (j : Key) → nat_eq b a ≡ false → left b j ≡ keeps b j

pub stands-lets : {P T : Type 0} (old new : Table) (keeps : ℕ → Key → Bool) (now : Moment P T) (a : ℕ) (slots : List ℕ) → StandsFor old keeps now → LetsAllGo old a slots new → Kept_by new keeps a now
unfolding LetsAllGo
stands-lets old new keeps now a [] st h = record { left = keeps; stands = subst (λ (t : Table). StandsFor t keeps now) h st; others = λ b j e. refl }
stands-lets old new keeps now a (slot ∷ slots) st h =
    let own = key_at-used old slot st.sound (used-agent old a slot st.sound (kept-held (hold_for old a slot) h.0)) in
    let rest = stands-lets h.1 new (λ b j. if is_pair b j a own.0 then false else keeps b j) now a slots
    (stands-let_go old h.1 keeps (λ b j. if is_pair b j a own.0 then false else keeps b j) now a own.0 slot st own.1 h.2 (λ b j. refl)) h.3 in
    record { left = rest.left; stands = rest.stands; others = λ b j e. rest.others b j e ∙ ap (λ c. if c && key_eq j own.0 then false else keeps b j) e }
  where
    kept-held : (hold : Hold) → is_kept hold ≡ true → is_held hold ≡ true
    kept-held Free t = t
    kept-held Kept t = refl
    kept-held Active t = refl

-- who keeps nothing holds what it is subscribed to
unkept : {P T : Type 0} (t : Table) (keeps : ℕ → Key → Bool) (now : Moment P T) → StandsFor t keeps now → (b : ℕ) (j : Key) → ((slot : ℕ) → is_kept (hold_for t b slot) ≡ false) → (subscribed b j now || false) ≡ (subscribed b j now || keeps b j)
unkept t keeps now st b j none =
    let go : (o : Option ℕ) → slot_for t j ≡ o → (subscribed b j now || false) ≡ (subscribed b j now || keeps b j) =
    elim [
      | None ↦ λ e. ap (λ c. c || false) (subscribed-absent t keeps now st b j e) ∙ sym (st.held b j ∙ holds_by-none t b j e)
      | Some slot ↦ λ e. settled (subscribed b j now) (keeps b j) (sym (kept-table t keeps now st b j slot (key_at-found t j slot e)) ∙ none slot)
    ] in
    go (slot_for t j) refl
  where
    settled : (c d : Bool) → (not c && d) ≡ false → (c || false) ≡ (c || d)
    settled true d e = refl
    settled false d e = sym e

after-closed : {P T : Type 0} (now : Moment P T) (ks : List Key) (a : ℕ) → after now (map (Unsubscribed a) ks ++ Closed a ∷ []) ≡ Closed a ∷ after now (map (Unsubscribed a) ks)
unfolding after
after-closed now [] a = refl
after-closed now (k ∷ ks) a = after-closed (Unsubscribed a k ∷ now) ks a

-- a close
pub stands-all_closed : {P T : Type 0} (old new : Table) (keeps : ℕ → Key → Bool) (now : Moment P T) (a : ℕ) → StandsFor old keeps now → IsClosed old a new →
    StandsFor new (λ b j. if nat_eq b a then false else keeps b j) (after now (map (Unsubscribed a) (keys_of a now) ++ Closed a ∷ []))
stands-all_closed old new keeps now a st h =
    let ended = stands-ends old h.mid (λ b j. if nat_eq b a && subscribed a j now then false else keeps b j) now a (order_of old a)
    (stands-keeps old keeps (λ b j. if nat_eq b a && subscribed a j now then false else keeps b j) now st (λ b j. plain b j (nat_eq b a) (subscribed a j now) refl refl))
    (st.sound.ordered_once a)
    (λ j t. ap (λ c. if nat_eq a a && c then false else keeps a j) (sym (keys_of-has a now j) ∙ ap (λ ks. has_key ks j) (st.orders a) ∙ t) ∙ ap (λ c. if c && true then false else keeps a j) (same a)) h.ended in
    let go = stands-lets h.mid new (λ b j. if nat_eq b a && subscribed a j now then false else keeps b j) (after now (map (Unsubscribed a) (keys_at old (order_of old a)))) a h.let_go.slots ended h.let_go.gone in
    let all = stands-keeps new go.left (λ b j. if nat_eq b a then false else keeps b j) (after now (map (Unsubscribed a) (keys_at old (order_of old a)))) go.stands
    (λ b j. final go (nat_eq b a) b j refl) in
    subst (λ (m : Moment _ _). StandsFor new (λ b j. if nat_eq b a then false else keeps b j) m) (sym (after-closed now (keys_of a now) a ∙ ap (λ ks. Closed a ∷ after now (map (Unsubscribed a) ks)) (st.orders a))) (stands-closed new (λ b j. if nat_eq b a then false else keeps b j) a (after now (map (Unsubscribed a) (keys_at old (order_of old a)))) all)
  where
    plain : (b : ℕ) (j : Key) (c d : Bool) → nat_eq b a ≡ c → subscribed a j now ≡ d → (subscribed b j now || (if c && d then false else keeps b j)) ≡ (subscribed b j now || keeps b j)
    plain b j true true e f = let t = ap (λ x. subscribed x j now) (equal b a e) ∙ f in ap (λ x. x || false) t ∙ sym (ap (λ x. x || keeps b j) t)
    plain b j true false e f = refl
    plain b j false d e f = refl

    final : (go : Kept_by new (λ b j. if nat_eq b a && subscribed a j now then false else keeps b j) a (after now (map (Unsubscribed a) (keys_at old (order_of old a))))) (c : Bool) (b : ℕ) (j : Key) → nat_eq b a ≡ c →
        (subscribed b j (after now (map (Unsubscribed a) (keys_at old (order_of old a)))) || (if c then false else keeps b j)) ≡ (subscribed b j (after now (map (Unsubscribed a) (keys_at old (order_of old a)))) || go.left b j)
    final go true b j e = unkept new go.left (after now (map (Unsubscribed a) (keys_at old (order_of old a)))) go.stands b j (λ slot. ap (λ x. is_kept (hold_for new x slot)) (equal b a e) ∙ h.let_go.none slot)
    final go false b j e = ap (λ x. subscribed b j (after now (map (Unsubscribed a) (keys_at old (order_of old a)))) || x) (sym (go.others b j e ∙ ap (λ c. if c && subscribed a j now then false else keeps b j) e))
