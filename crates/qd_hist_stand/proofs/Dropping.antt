-- A stripe stands after the end of a subscription.
use Rattle.std.proofs.Common.{◌≡◌, ◌⊎◌, inl, inr, ℕ, ◌+◌, ◌-◌, Bool, true, false, ◌&&◌, not, if◌then◌else◌, nat_eq, Option, Some, None, is_some, List, [], ◌∷◌, refl, ap, sym, ◌∙◌, arith, subst}
use Rattle.qd_scheme.specs.declared.key.Key.{Key}
use Rattle.qd_scheme.specs.declared.key.Event.{Event}
use Rattle.qd_scheme.specs.Keys.{key_eq}
use Rattle.qd_scheme.proofs.KeyLaws.{key_eq-true}
use Rattle.std.proofs.lemmas.Bool.{and_parts}
use Rattle.qd_gate.specs.declared.machine.Terms.{Terms}
use Rattle.qd_pend.proofs.ListLaws.{same, equal}
use Rattle.qd_sub.specs.Acts.{Unsubscribed, newest_key, is_pair}
use Rattle.qd_sub.specs.Subscriptions.{limit_of, subscribed, wanted}
use Rattle.qd_sub.proofs.OrderLaws.{is_about}
use Rattle.qd_sub.proofs.SubscriptionLaws.{subscribed-unsub, wanted-subscribed}
use Rattle.qd_sub.proofs.HeldLaws.{limit_of-unsub, wanted-about}
use Rattle.qd_slots.specs.Holds.{is_subscribed, after_end}
use Rattle.qd_slots.proofs.ViewLaws.{queued-out}
use Rattle.qd_table.specs.Tables.{key_at, slot_for, hold_for, limit_for, order_of, is_used, is_wanted_slot}
use Rattle.qd_table.specs.Steps.{is_cell}
use Rattle.qd_table.specs.Standing as table
use Rattle.qd_table.proofs.TableLaws.{true-false, some-same, some-none, key_at-found, key_at-subscribed, wanted-someone, wanted-subscriber, limit_for-some, none-from}
use Rattle.qd_table.proofs.CallSteps.{cell-here, cell-elsewhere}
use Rattle.qd_table.proofs.StandLaws.{wanted-table, wanted-absent}
use Rattle.qd_table.proofs.StandSteps.{stands-ended}
use Rattle.qd_hist_key.specs.Kept.{Kept}
use Rattle.qd_hist_key.specs.Keeping as keeping
use Rattle.qd_hist_rules.specs.Moments.{HistMoment, events}
use Rattle.qd_hist_rules.specs.Source.{source, Commit, last, count, stock}
use Rattle.qd_hist_rules.specs.Standing.{is_due, due_keys}
use Rattle.qd_hist_rules.specs.Lawful.{Lawful}
use Rattle.qd_hist_rules.proofs.ActFacts.{self_pair}
use Rattle.qd_hist_rules.proofs.Stock.{key_stock, stock-unsubscribed, stock-dropped}
use Rattle.qd_hist_feed.specs.Feeding.{Feeding, nothing}
use Rattle.qd_hist_feed.specs.Stands as feed
use Rattle.qd_hist_feed.specs.Laws.{IsQuiet}
use Rattle.qd_hist_feed.proofs.Sizes.{size-is}
use Rattle.qd_hist_feed.proofs.Sweeping.{quiet_stands}
use Rattle.qd_hist_stand.specs.Stripes.{Shown, StandsAt, AllOf, IsFed, no_keeps, source_of, state_at, number_at, feed_at, due_at, terms_in, size_of}
use Rattle.qd_hist_stand.specs.Steps.{IsDropped}
use Rattle.qd_hist_stand.specs.Laws.{DroppedStands}
use Rattle.qd_hist_stand.proofs.Elsewhere.{and-false, last-stays, last-elsewhere, last-unwanted, source-elsewhere, source-unwanted, source-as, quiet-elsewhere}
use Rattle.qd_hist_stand.proofs.Base.{due-of, keys-apart, state-of, feed-of, terms-same, floor-alike, due-alike, due-unlimited, unlimited}
use Rattle.qd_hist_stand.proofs.Moves.{key-apart, IsMoved, due-moved, once-moved, order-moved}
use Rattle.qd_hist_stand.proofs.Restarts.{IsRestart, feed-restarted, moved-restarted, owed-restarted, within-restarted}
use Rattle.qd_hist_stand.proofs.Subscribing.{begun-unsubscribed, nothing-stands}

-- the key is wanted after the end of a subscription just where an agent is subscribed to its slot
pub wanted-dropped : (s t : Shown) (a : ℕ) (k : Key) (slot : ℕ) (now : HistMoment) → StandsAt s now → key_at s.table slot ≡ Some k → IsDropped s a slot t → table.StandsFor t.table no_keeps (Unsubscribed a k ∷ now) → wanted k (Unsubscribed a k ∷ now) ≡ is_wanted_slot t.table slot
wanted-dropped s t a k slot now st own h tab = go (is_used t.table slot) refl
  where
    name_then : (c : Bool) → is_used t.table slot ≡ c → (i : ℕ) → key_at t.table i ≡ (if nat_eq i slot && not c then None else key_at s.table i)
    name_then c u i = h.table.names i ∙ ap (λ (b : Bool). if nat_eq i slot && not b then None else key_at s.table i) u

    slot_then : (c : Bool) → is_used t.table slot ≡ c → key_at t.table slot ≡ (if not c then None else Some k)
    slot_then c u = name_then c u slot ∙ ap (λ (b : Bool). if b && not c then None else key_at s.table slot) (same slot) ∙ ap (λ (o : Option Key). if not c then None else o) own

    unwanted_slot : key_at t.table slot ≡ None → (c : Bool) → is_wanted_slot t.table slot ≡ c → c ≡ false
    unwanted_slot e true w = let f = wanted-someone t.table slot w in let g = key_at-subscribed t.table f.0 slot tab.sound f.1 in absurd (some-none g.0 (sym g.1 ∙ e))
    unwanted_slot e false w = refl

    no_slot : is_used t.table slot ≡ false → (o : Option ℕ) → slot_for t.table k ≡ o → slot_for t.table k ≡ None
    no_slot u None e = e
    no_slot u (Some i) e =
        let there = key_at-found t.table k i e in
        let go : (b : Bool) → nat_eq i slot ≡ b → slot_for t.table k ≡ None =
        elim [
          | true ↦ λ f. absurd (some-none k (sym there ∙ ap (key_at t.table) (equal i slot f) ∙ slot_then false u))
          | false ↦ λ f. (let old : key_at s.table i ≡ Some k = sym (name_then false u i ∙ ap (λ (b : Bool). if b && true then None else key_at s.table i) f) ∙ there in
              absurd (true-false (sym (same slot) ∙ ap (λ (j : ℕ). nat_eq j slot) (keys-apart s now st slot i k own old) ∙ f)))
        ] in
        go (nat_eq i slot) refl

    go : (c : Bool) → is_used t.table slot ≡ c → wanted k (Unsubscribed a k ∷ now) ≡ is_wanted_slot t.table slot
    go true u = wanted-table t.table no_keeps (Unsubscribed a k ∷ now) tab k slot (slot_then true u)
    go false u = wanted-absent t.table no_keeps (Unsubscribed a k ∷ now) tab k (no_slot u (slot_for t.table k) refl) ∙ sym (unwanted_slot (slot_then false u) (is_wanted_slot t.table slot) refl)

pub dropping-stands : DroppedStands
unfolding subscribed
dropping-stands s t a k slot now st own h = record {
  table = tab;
  lawful = lawful_then;
  count_is = h.count ∙ st.count_is ∙ ap (λ (b : ℕ). count b now) (sym h.base);
  stock_is = stock_then (is_wanted_slot t.table slot) refl ∙ ap (λ (b : ℕ). stock b next) (sym h.base);
  states = λ i. state i (nat_eq i slot) refl;
  numbers = λ i j c e l. number i j c (nat_eq i slot) refl e (ap (λ (b : ℕ). last b j next) (sym h.base) ∙ l);
  feeds = λ b i. subst (λ (x : Terms). IsFed x b (key_at t.table i) (feed_at t b i) next) (sym terms) (fed b i (nat_eq i slot) refl);
  labels = label;
  owed_labels = λ b i j e. owed_label b i j (is_cell b i a slot) refl e;
  unfed = λ b i e. unfed_then b i (is_cell b i a slot) refl e;
  due = due-moved s t slot now st moved;
  once = once-moved s t slot now st moved;
  order = λ b. ap (λ (x : Terms). due_keys x b next) terms
      ∙ order-moved s t slot now st moved b k (Unsubscribed a k) (inl (st.table.sound.found slot k own)) refl (λ y. refl) elsewhere (λ d. kept_name b d) (due_then b);
  owed = owed-restarted s t a slot None now st restart;
  within = within-restarted s t a slot None now st restart;
}
  where
    next : HistMoment
    next = Unsubscribed a k ∷ now

    terms : terms_in t ≡ terms_in s
    terms = terms-same s t h.hcap h.base

    no_pairs : (b : ℕ) (j : Key) → no_keeps b j ≡ (if is_pair b j a k then false else no_keeps b j)
    no_pairs b j = elim (is_pair b j a k) as (λ c. false ≡ (if c then false else false)) [ true ↦ refl | false ↦ refl ]

    tab : table.StandsFor t.table no_keeps next
    tab = stands-ended s.table t.table no_keeps no_keeps now a k slot false st.table h.subscribed own h.table no_pairs

    lawful_then : Lawful (terms_in t) next
    lawful_then = subst (λ (x : Terms). Lawful x next) (sym terms) st.lawful

    wants : wanted k next ≡ is_wanted_slot t.table slot
    wants = wanted-dropped s t a k slot now st own h tab

    wanted_before : wanted k now ≡ true
    wanted_before = wanted-table s.table no_keeps now st.table k slot own ∙ wanted-subscriber s.table a slot st.table.sound h.subscribed

    elsewhere : (i : ℕ) → nat_eq i slot ≡ false → key_at t.table i ≡ key_at s.table i
    elsewhere i e = h.table.names i ∙ ap (λ (b : Bool). if b && not (is_used t.table slot) then None else key_at s.table i) e

    -- the slot keeps its key, or is vacant
    after : (key_at t.table slot ≡ Some k) ⊎ (key_at t.table slot ≡ None)
    after = go (is_used t.table slot) refl
      where
        pick : (c : Bool) → key_at t.table slot ≡ (if not c then None else Some k) → (key_at t.table slot ≡ Some k) ⊎ (key_at t.table slot ≡ None)
        pick true e = inl e
        pick false e = inr e

        go : (c : Bool) → is_used t.table slot ≡ c → (key_at t.table slot ≡ Some k) ⊎ (key_at t.table slot ≡ None)
        go c u =
            let name : key_at t.table slot ≡ (if not c then None else Some k) =
            h.table.names slot ∙ ap (λ (b : Bool). if nat_eq slot slot && not b then None else key_at s.table slot) u ∙ ap (λ (b : Bool). if b && not c then None else key_at s.table slot) (same slot) ∙ ap (λ (o : Option Key). if not c then None else o) own in
            pick c name

    -- a vacant slot is subscribed by nobody
    only_key : (j : Key) → key_at t.table slot ≡ Some j → k ≡ j
    only_key j e = elim after [
      | inl o ↦ some-same k j (sym o ∙ e)
      | inr o ↦ absurd (some-none j (sym e ∙ o))
    ]

    kept_wanted : is_wanted_slot t.table slot ≡ true → key_at t.table slot ≡ Some k
    kept_wanted w = elim after [
      | inl o ↦ o
      | inr o ↦ (let f = wanted-someone t.table slot w in let g = key_at-subscribed t.table f.0 slot tab.sound f.1 in absurd (some-none g.0 (sym g.1 ∙ o)))
    ]

    apart : (i : ℕ) (j : Key) → key_at s.table i ≡ Some j → nat_eq i slot ≡ false → is_about key_eq j (newest_key next) ≡ false
    apart i j there e = key-apart (key_at s.table) (keys-apart s now st) slot i k j own there e

    stock_then : (c : Bool) → is_wanted_slot t.table slot ≡ c → t.stock ≡ stock s.base next
    stock_then true w =
        h.stock ∙ ap (λ (b : Bool). if b then s.stock else s.stock - size_of (state_at s slot)) w ∙ st.stock_is ∙ sym (stock-unsubscribed s.base a k now (wants ∙ w))
    stock_then false w =
        let new : t.stock ≡ s.stock - size_of (state_at s slot) = h.stock ∙ ap (λ (b : Bool). if b then s.stock else s.stock - size_of (state_at s slot)) w in
        let old : s.stock ≡ stock s.base now = st.stock_is in
        let size : size_of (state_at s slot) ≡ key_stock s.base k now = size-is s.base k now (state_at s slot) (state-of s now st slot k own) in
        let falls : stock s.base next + key_stock s.base k now ≡ stock s.base now = stock-dropped s.base a k now (wants ∙ w) in
        omega (arith, new, old, size, falls)

    -- the sources
    source_there : is_wanted_slot t.table slot ≡ true → source k next ≡ source k now
    source_there w = source-as k (Unsubscribed a k) now refl (wants ∙ w ∙ sym wanted_before)

    source_gone : is_wanted_slot t.table slot ≡ false → (o : Option Key) → key_at t.table slot ≡ o → source_of o next ≡ []
    source_gone w None e = refl
    source_gone w (Some j) e = ap (λ (x : Key). source x next) (sym (only_key j e)) ∙ source-unwanted k next (wants ∙ w)

    source_else : (i : ℕ) → nat_eq i slot ≡ false → (o : Option Key) → key_at s.table i ≡ o → source_of o next ≡ source_of o now
    source_else i e None o = refl
    source_else i e (Some j) o = source-elsewhere j (Unsubscribed a k) now (apart i j o e)

    state : (i : ℕ) (c : Bool) → nat_eq i slot ≡ c → keeping.StandsFor (state_at t i) (source_of (key_at t.table i) next)
    state i false e =
        subst (λ (x : Kept). keeping.StandsFor x (source_of (key_at t.table i) next)) (sym (h.states i (ap (λ (b : Bool). b && not (is_wanted_slot t.table slot)) e)))
        (subst (λ (es : List Event). keeping.StandsFor (state_at s i) es) (sym (ap (λ (x : Option Key). source_of x next) (elsewhere i e) ∙ source_else i e (key_at s.table i) refl)) (st.states i))
    state i true e = subst (λ (x : ℕ). keeping.StandsFor (state_at t x) (source_of (key_at t.table x) next)) (sym (equal i slot e)) (at (is_wanted_slot t.table slot) refl)
      where
        at : (w : Bool) → is_wanted_slot t.table slot ≡ w → keeping.StandsFor (state_at t slot) (source_of (key_at t.table slot) next)
        at true w =
            subst (λ (x : Kept). keeping.StandsFor x (source_of (key_at t.table slot) next)) (sym (h.states slot (ap (λ (b : Bool). nat_eq slot slot && not b) w ∙ and-false (nat_eq slot slot))))
            (subst (λ (es : List Event). keeping.StandsFor (state_at s slot) es) (sym (ap (λ (x : Option Key). source_of x next) (kept_wanted w) ∙ source_there w)) (state-of s now st slot k own))
        at false w = subst (λ (es : List Event). keeping.StandsFor (state_at t slot) es) (sym (source_gone w (key_at t.table slot) refl)) (h.cleared w)

    number : (i : ℕ) (j : Key) (c : Commit) (b : Bool) → nat_eq i slot ≡ b → key_at t.table i ≡ Some j → last s.base j next ≡ Some c → number_at t i ≡ c.number
    number i j c false e o l =
        let old : key_at s.table i ≡ Some j = sym (elsewhere i e) ∙ o in
        h.numbers i ∙ st.numbers i j c old (sym (last-elsewhere s.base j (Unsubscribed a k) now (apart i j old e)) ∙ l)
    number i j c true e o l = at (is_wanted_slot t.table slot) refl
      where
        here : i ≡ slot
        here = equal i slot e

        key : k ≡ j
        key = only_key j (ap (key_at t.table) (sym here) ∙ o)

        last_k : last s.base k next ≡ Some c
        last_k = ap (λ (x : Key). last s.base x next) key ∙ l

        at : (w : Bool) → is_wanted_slot t.table slot ≡ w → number_at t i ≡ c.number
        at true w = h.numbers i ∙ st.numbers i k c (ap (key_at s.table) here ∙ own) (sym (last-stays s.base k (Unsubscribed a k) now refl (wants ∙ w ∙ sym wanted_before)) ∙ last_k)
        at false w = absurd (some-none c (sym last_k ∙ last-unwanted s.base k next (wants ∙ w)))

    label : (j : Key) → AllOf j (source j next)
    label j = go (wanted j next) refl
      where
        go : (c : Bool) → wanted j next ≡ c → AllOf j (source j next)
        go false w = subst (λ (es : List Event). AllOf j es) (sym (source-unwanted j next w)) tt
        go true w = subst (λ (es : List Event). AllOf j es) (sym (source-as j (Unsubscribed a k) now refl (w ∙ sym (was (key_eq j k) refl)))) (st.labels j)
          where
            was : (d : Bool) → key_eq j k ≡ d → wanted j now ≡ true
            was true e = ap (λ (x : Key). wanted x now) (key_eq-true j k e) ∙ wanted_before
            was false e = sym (wanted-about (Unsubscribed a k) now j e) ∙ w

    feed_then : (b i : ℕ) (c : Bool) → is_cell b i a slot ≡ c → feed_at t b i ≡ (if c then nothing else feed_at s b i)
    feed_then b i c e = feed-restarted s t a slot None h.part b i c e

    other_pair : (b : ℕ) → nat_eq b a ≡ false → is_pair b k a k ≡ false
    other_pair b e = ap (λ (c : Bool). c && key_eq k k) e

    other_quiet : (b : ℕ) → nat_eq b a ≡ false → IsQuiet (terms_in s) b k (Unsubscribed a k) now
    other_quiet b e = record {
      no_gift = refl;
      no_commit = refl;
      same_limit = limit_of-unsub b k a k now ∙ ap (λ (c : Bool). if c then None else limit_of b k now) (other_pair b e);
      no_sub = refl;
    }

    gone_pair : subscribed a k next ≡ false
    gone_pair = subscribed-unsub a k a k now ∙ ap (λ (c : Bool). not c && subscribed a k now) (self_pair a k)

    -- where the slot keeps its key
    fed_here : (b : ℕ) (c : Bool) → nat_eq b a ≡ c → feed.StandsFor (terms_in s) b k (feed_at t b slot) next
    fed_here b true e =
        subst (λ (x : Feeding). feed.StandsFor (terms_in s) b k x next) (sym (feed_then b slot true (cell-here b a slot ∙ e)))
        (nothing-stands (terms_in s) b k next (begun-unsubscribed (terms_in s) b k next (ap (λ (x : ℕ). subscribed x k next) (equal b a e) ∙ gone_pair)))
    fed_here b false e =
        subst (λ (x : Feeding). feed.StandsFor (terms_in s) b k x next) (sym (feed_then b slot false (cell-here b a slot ∙ e)))
        (quiet_stands (terms_in s) b k (feed_at s b slot) (Unsubscribed a k) now (other_quiet b e) (feed-of s now st b slot k own))

    -- nobody is subscribed to a vacant slot
    nobody : key_at t.table slot ≡ None → (b : ℕ) → is_subscribed (hold_for t.table b slot) ≡ false
    nobody o b = see (is_subscribed (hold_for t.table b slot)) refl
      where
        see : (c : Bool) → is_subscribed (hold_for t.table b slot) ≡ c → c ≡ false
        see true f = let g = key_at-subscribed t.table b slot tab.sound f in absurd (some-none g.0 (sym g.1 ∙ o))
        see false f = refl

    unfed_then : (b i : ℕ) (c : Bool) → is_cell b i a slot ≡ c → is_subscribed (hold_for t.table b i) ≡ false → feed_at t b i ≡ nothing
    unfed_then b i true e f = feed_then b i true e
    unfed_then b i false e f =
        feed_then b i false e ∙ st.unfed b i (ap is_subscribed (sym (h.table.holds b i ∙ ap (λ (x : Bool). if x then after_end false else hold_for s.table b i) e)) ∙ f)

    fed_else : (b i : ℕ) → nat_eq i slot ≡ false → (o : Option Key) → key_at s.table i ≡ o → IsFed (terms_in s) b o (feed_at s b i) next
    fed_else b i e None o = subst (λ (x : Option Key). IsFed (terms_in s) b x (feed_at s b i) now) o (st.feeds b i)
    fed_else b i e (Some j) o = quiet_stands (terms_in s) b j (feed_at s b i) (Unsubscribed a k) now (quiet-elsewhere (terms_in s) b j (Unsubscribed a k) now (apart i j o e)) (feed-of s now st b i j o)

    fed : (b i : ℕ) (c : Bool) → nat_eq i slot ≡ c → IsFed (terms_in s) b (key_at t.table i) (feed_at t b i) next
    fed b i false e =
        subst (λ (x : Feeding). IsFed (terms_in s) b (key_at t.table i) x next) (sym (feed_then b i false (cell-elsewhere b i a slot e)))
        (subst (λ (x : Option Key). IsFed (terms_in s) b x (feed_at s b i) next) (sym (elsewhere i e)) (fed_else b i e (key_at s.table i) refl))
    fed b i true e =
        subst (λ (x : ℕ). IsFed (terms_in s) b (key_at t.table x) (feed_at t b x) next) (sym (equal i slot e))
        (elim after [
          | inl o ↦ subst (λ (x : Option Key). IsFed (terms_in s) b x (feed_at t b slot) next) (sym o) (fed_here b (nat_eq b a) refl)
          | inr o ↦ subst (λ (x : Option Key). IsFed (terms_in s) b x (feed_at t b slot) next) (sym o) (unfed_then b slot (is_cell b slot a slot) refl (nobody o b))
        ])

    owed_label : (b i : ℕ) (j : Key) (c : Bool) → is_cell b i a slot ≡ c → key_at t.table i ≡ Some j → AllOf j (events (feed_at t b i).owed)
    owed_label b i j true e o = subst (λ (x : Feeding). AllOf j (events x.owed)) (sym (feed_then b i true e)) tt
    owed_label b i j false e o = subst (λ (x : Feeding). AllOf j (events x.owed)) (sym (feed_then b i false e)) (st.owed_labels b i j (old (nat_eq i slot) refl))
      where
        old : (d : Bool) → nat_eq i slot ≡ d → key_at s.table i ≡ Some j
        old false f = sym (elsewhere i f) ∙ o
        old true f = ap (key_at s.table) (equal i slot f) ∙ own ∙ ap (λ (x : Key). let q : Option Key = Some x in q) (only_key j (ap (key_at t.table) (sym (equal i slot f)) ∙ o))

    -- a slot that is not wanted has no limits
    no_limit : is_wanted_slot t.table slot ≡ false → (b : ℕ) → limit_for t.table b slot ≡ None
    no_limit w b = none-from (limit_for t.table b slot) (limit_for-some t.table b slot ∙ see (is_subscribed (hold_for t.table b slot)) refl)
      where
        see : (c : Bool) → is_subscribed (hold_for t.table b slot) ≡ c → c ≡ false
        see true f = sym (wanted-subscriber t.table b slot tab.sound f) ∙ w
        see false f = refl

    limit_same : (b i : ℕ) → is_cell b i a slot ≡ false → limit_for t.table b i ≡ limit_for s.table b i
    limit_same b i e = h.table.limits b i ∙ ap (λ (x : Bool). if x then None else limit_for s.table b i) e

    alike : (b i : ℕ) → is_cell b i a slot ≡ false → due_at t b i ≡ due_at s b i
    alike b i e = at (nat_eq i slot && not (is_wanted_slot t.table slot)) refl
      where
        turned : (c : Bool) → not c ≡ true → c ≡ false
        turned true g = sym g
        turned false g = refl

        at : (c : Bool) → (nat_eq i slot && not (is_wanted_slot t.table slot)) ≡ c → due_at t b i ≡ due_at s b i
        at false f = due-alike s t b i (floor-alike s t b i (limit_same b i e) (ap (λ (x : Kept). x.now.floor) (h.states i f))) (feed_then b i false e)
        at true f =
            let p = and_parts (nat_eq i slot) (not (is_wanted_slot t.table slot)) f in
            let none : limit_for t.table b i ≡ None = ap (limit_for t.table b) (equal i slot p.0) ∙ no_limit (turned (is_wanted_slot t.table slot) p.1) b in
            due-unlimited t b i none ∙ sym (due-unlimited s b i (sym (limit_same b i e) ∙ none))

    not_due : due_at t a slot ≡ false
    not_due = due-unlimited t a slot (h.table.limits a slot ∙ ap (λ (x : Bool). if x then None else limit_for s.table a slot) (cell-here a a slot ∙ same a))

    restart : IsRestart s t a slot None
    restart = record {
      part = h.part;
      hcap = h.hcap;
      due = not_due;
      alike = alike;
      ordered = false;
      orders = λ b. h.table.orders b ∙ ap (λ (x : List ℕ). if nat_eq b a then x else order_of s.table b) (sym (queued-out (order_of s.table b) slot));
    }

    moved : IsMoved s t slot
    moved = moved-restarted s t a slot None now st restart

    kept_name : (b : ℕ) → due_at t b slot ≡ true → key_at t.table slot ≡ Some k
    kept_name b d = go (is_wanted_slot t.table slot) refl
      where
        go : (c : Bool) → is_wanted_slot t.table slot ≡ c → key_at t.table slot ≡ Some k
        go true w = kept_wanted w
        go false w = absurd (true-false (sym d ∙ due-unlimited t b slot (no_limit w b)))

    limit_then : (b : ℕ) → key_at t.table slot ≡ None → limit_of b k next ≡ None
    limit_then b o = see (limit_of b k next) refl
      where
        quiet : (c : Bool) → is_wanted_slot t.table slot ≡ c → is_wanted_slot t.table slot ≡ false
        quiet true w = absurd (some-none k (sym (kept_wanted w) ∙ o))
        quiet false w = w

        see : (x : Option ℕ) → limit_of b k next ≡ x → limit_of b k next ≡ None
        see None f = f
        see (Some n) f = absurd (true-false (sym (wanted-subscribed b k next (ap is_some f)) ∙ wants ∙ quiet (is_wanted_slot t.table slot) refl))

    due_then : (b : ℕ) → is_due (terms_in s) b k next ≡ due_at t b slot
    due_then b = elim after [
      | inl o ↦ sym (
          due-of t next b slot k tab lawful_then o (subst (λ (x : Option Key). keeping.StandsFor (state_at t slot) (source_of x next)) o (state slot (nat_eq slot slot) refl))
          (subst (λ (x : Terms). feed.StandsFor x b k (feed_at t b slot) next) (sym terms) (fed_here b (nat_eq b a) refl))
          ∙ ap (λ (x : Terms). is_due x b k next) terms)
      | inr o ↦ unlimited (terms_in s) b k next (limit_then b o) ∙ sym (due-unlimited t b slot (none-from (limit_for t.table b slot) (limit_for-some t.table b slot ∙ nobody o b)))
    ]
