-- What a table says of a moment for which it stands.
use Rattle.std.proofs.Common.{◌≡◌, ℕ, zero, suc, ◌<◌, Bool, true, false, ◌&&◌, ◌||◌, not, if◌then◌else◌, nat_eq, Option, Some, None, is_some, List, [], ◌∷◌, refl, ap, sym, ◌∙◌, map, take}
use Rattle.std.specs.List.{list_any, filter_map, cons_option}
use Rattle.qd_scheme.specs.declared.key.Key.{Key}
use Rattle.qd_pend.specs.Slots.{has}
use Rattle.qd_pend.proofs.ListLaws.{same, has-here, has-later}
use Rattle.qd_sub.specs.declared.sub.Want.{Want}
use Rattle.qd_sub.specs.Acts.{Moment}
use Rattle.qd_sub.specs.Subscriptions.{limit_of, subscribed, wanted, total, least}
use Rattle.qd_sub.specs.Watching.{known, is_outdated, differs, same_total, want_of, watched}
use Rattle.qd_sub.proofs.HeldLaws.{total-by}
use Rattle.qd_sub.proofs.SubscriptionLaws.{wanted-by}
use Rattle.qd_slots.specs.declared.holds.Hold.{Hold}
use Rattle.qd_slots.specs.declared.holds.Hold.TheVariants.{Free, Kept, Subscribed}
use Rattle.qd_slots.specs.Holds.{is_subscribed, is_held, is_kept}
use Rattle.qd_slots.specs.Views.{view_differs}
use Rattle.qd_table.specs.Tables.{Table, key_at, keys_at, slot_for, below, hold_for, limit_for, total_for, is_wanted_slot, view_for, queue_of, differs_for, is_used, limit_by, holds_by, total_by, known_by, outdated_by, total_to_tell, want_for, wants_for}
use Rattle.qd_table.specs.Sound.{IsSound}
use Rattle.qd_table.specs.Standing.{StandsFor}
use Rattle.qd_table.proofs.TableLaws.{true-false, some-from, by, below-any, below-same, limit_for-some, subscribed-held, key_at-found, wanted-subscriber, wanted-someone, unused-view, unused-limit}
use Rattle.qd_table.proofs.ListLaws.{gives-same}
use Rattle.qd_table.proofs.CallSteps.{agent-within}

-- at the slot of a key
pub limit_by-at : (t : Table) (a : ℕ) (k : Key) (slot : ℕ) → slot_for t k ≡ Some slot → limit_by t a k ≡ limit_for t a slot
unfolding limit_by
limit_by-at t a k slot e = ap (λ o. by o (limit_for t a) None) e

pub limit_by-none : (t : Table) (a : ℕ) (k : Key) → slot_for t k ≡ None → limit_by t a k ≡ None
unfolding limit_by
limit_by-none t a k e = ap (λ o. by o (limit_for t a) None) e

pub holds_by-at : (t : Table) (a : ℕ) (k : Key) (slot : ℕ) → slot_for t k ≡ Some slot → holds_by t a k ≡ is_held (hold_for t a slot)
unfolding holds_by
holds_by-at t a k slot e = ap (λ o. by o (λ i. is_held (hold_for t a i)) false) e

pub holds_by-none : (t : Table) (a : ℕ) (k : Key) → slot_for t k ≡ None → holds_by t a k ≡ false
unfolding holds_by
holds_by-none t a k e = ap (λ o. by o (λ i. is_held (hold_for t a i)) false) e

pub known_by-at : (t : Table) (w : ℕ) (k : Key) (slot : ℕ) → slot_for t k ≡ Some slot → known_by t w k ≡ (view_for t w slot).known
unfolding known_by
known_by-at t w k slot e = ap (λ o. by o (λ i. (view_for t w i).known) None) e

pub known_by-none : (t : Table) (w : ℕ) (k : Key) → slot_for t k ≡ None → known_by t w k ≡ None
unfolding known_by
known_by-none t w k e = ap (λ o. by o (λ i. (view_for t w i).known) None) e

pub outdated_by-at : (t : Table) (w : ℕ) (k : Key) (slot : ℕ) → slot_for t k ≡ Some slot → outdated_by t w k ≡ (view_for t w slot).outdated
unfolding outdated_by
outdated_by-at t w k slot e = ap (λ o. by o (λ i. (view_for t w i).outdated) false) e

-- who is subscribed
pub subscribed-table : {P T : Type 0} (t : Table) (keeps : ℕ → Key → Bool) (now : Moment P T) → StandsFor t keeps now → (a : ℕ) (k : Key) (slot : ℕ) → key_at t slot ≡ Some k → subscribed a k now ≡ is_subscribed (hold_for t a slot)
unfolding subscribed
subscribed-table t keeps now st a k slot own = ap is_some (st.limits a k ∙ limit_by-at t a k slot (st.sound.found slot k own)) ∙ limit_for-some t a slot

pub subscribed-absent : {P T : Type 0} (t : Table) (keeps : ℕ → Key → Bool) (now : Moment P T) → StandsFor t keeps now → (a : ℕ) (k : Key) → slot_for t k ≡ None → subscribed a k now ≡ false
unfolding subscribed
subscribed-absent t keeps now st a k e = ap is_some (st.limits a k ∙ limit_by-none t a k e)

-- who keeps
pub kept-table : {P T : Type 0} (t : Table) (keeps : ℕ → Key → Bool) (now : Moment P T) → StandsFor t keeps now → (a : ℕ) (k : Key) (slot : ℕ) → key_at t slot ≡ Some k → is_kept (hold_for t a slot) ≡ (not (subscribed a k now) && keeps a k)
kept-table t keeps now st a k slot own =
    let go : (hold : Hold) → hold_for t a slot ≡ hold → (c d : Bool) → subscribed a k now ≡ c → keeps a k ≡ d → is_kept hold ≡ (not c && d) =
    λ hold e c d p q. fits hold c d (sym p ∙ subscribed-table t keeps now st a k slot own ∙ ap is_subscribed e) (ap (λ x. x || d) (sym p) ∙ ap (λ x. subscribed a k now || x) (sym q) ∙ st.held a k ∙ holds_by-at t a k slot (st.sound.found slot k own) ∙ ap is_held e) in
    go (hold_for t a slot) refl (subscribed a k now) (keeps a k) refl refl
  where
    fits : (hold : Hold) (c d : Bool) → c ≡ is_subscribed hold → (c || d) ≡ is_held hold → is_kept hold ≡ (not c && d)
    fits Free true d p q = absurd (true-false p)
    fits Free false d p q = sym q
    fits Kept true d p q = absurd (true-false p)
    fits Kept false d p q = sym q
    fits Subscribed true d p q = refl
    fits Subscribed false d p q = absurd (true-false (sym p))

-- what is wanted
pub wanted-at : {P T : Type 0} (t : Table) (k : Key) (slot : ℕ) (now : Moment P T) → IsSound t → ((a : ℕ) → subscribed a k now ≡ is_subscribed (hold_for t a slot)) → wanted k now ≡ is_wanted_slot t slot
wanted-at t k slot now s h = wanted-by k now (is_wanted_slot t slot) (λ a e. wanted-subscriber t a slot s (sym (h a) ∙ e)) (λ e. let f = wanted-someone t slot e in (f.0, h f.0 ∙ f.1))

pub wanted-table : {P T : Type 0} (t : Table) (keeps : ℕ → Key → Bool) (now : Moment P T) → StandsFor t keeps now → (k : Key) (slot : ℕ) → key_at t slot ≡ Some k → wanted k now ≡ is_wanted_slot t slot
wanted-table t keeps now st k slot own = wanted-at t k slot now st.sound (λ a. subscribed-table t keeps now st a k slot own)

pub wanted-absent : {P T : Type 0} (t : Table) (keeps : ℕ → Key → Bool) (now : Moment P T) → StandsFor t keeps now → (k : Key) → slot_for t k ≡ None → wanted k now ≡ false
wanted-absent t keeps now st k e = wanted-by k now false (λ a h. sym (subscribed-absent t keeps now st a k e) ∙ h) (λ h. absurd (true-false (sym h)))

-- totals
least-some : (n : ℕ) (ns : List ℕ) → is_some (least (n ∷ ns)) ≡ true
unfolding least
least-some n ns = refl

least-none : is_some (least []) ≡ false
unfolding least
least-none = refl

given-some : (f : ℕ → Option ℕ) (n : ℕ) → is_some (least (filter_map f (below n))) ≡ list_any (λ a. is_some (f a)) (below n)
unfolding below
given-some f zero = least-none
given-some f (suc n) =
    let go : (o : Option ℕ) → is_some (least (cons_option o (filter_map f (below n)))) ≡ (is_some o || list_any (λ a. is_some (f a)) (below n)) =
    elim [ None ↦ given-some f n | Some m ↦ least-some m (filter_map f (below n)) ] in
    go (f n)

pub total_for-some : (t : Table) (slot : ℕ) → is_some (total_for t slot) ≡ is_wanted_slot t slot
unfolding total_for is_wanted_slot
total_for-some t slot = given-some (λ a. limit_for t a slot) 128 ∙ below-same (λ a. is_some (limit_for t a slot)) (λ a. is_subscribed (hold_for t a slot)) 128 (λ a. limit_for-some t a slot)

pub total-at : {P T : Type 0} (t : Table) (k : Key) (slot : ℕ) (now : Moment P T) → IsSound t → ((a : ℕ) → limit_of a k now ≡ limit_for t a slot) → total k now ≡ total_for t slot
unfolding total_for
total-at t k slot now s h =
    total-by k now (below 128) (λ a e. below-any (λ b. nat_eq a b) 128 a (agent-within t a slot s (subscribed-held (hold_for t a slot) (sym (limit_for-some t a slot) ∙ sym (ap is_some (h a)) ∙ e))) (same a))
    ∙ ap least (gives-same (λ a. limit_of a k now) (λ a. limit_for t a slot) 128 h)

nothing : (n : ℕ) → least (filter_map (λ a. (let o : Option ℕ = None in o)) (below n)) ≡ None
unfolding below least
nothing zero = refl
nothing (suc n) = nothing n

pub none-total : (t : Table) (slot : ℕ) → ((a : ℕ) → limit_for t a slot ≡ None) → total_for t slot ≡ None
unfolding total_for
none-total t slot h = ap least (gives-same (λ a. limit_for t a slot) (λ a. None) 128 h) ∙ nothing 128

pub unused-total : (t : Table) (slot : ℕ) → IsSound t → is_used t slot ≡ false → total_for t slot ≡ None
unused-total t slot s h = none-total t slot (λ a. unused-limit t a slot s h)

pub total-table : {P T : Type 0} (t : Table) (keeps : ℕ → Key → Bool) (now : Moment P T) → StandsFor t keeps now → (k : Key) (slot : ℕ) → key_at t slot ≡ Some k → total k now ≡ total_for t slot
total-table t keeps now st k slot own = total-at t k slot now st.sound (λ a. st.limits a k ∙ limit_by-at t a k slot (st.sound.found slot k own))

total-absent : {P T : Type 0} (k : Key) (now : Moment P T) → ((a : ℕ) → limit_of a k now ≡ None) → total k now ≡ None
unfolding least
total-absent k now h = total-by k now [] (λ a e. absurd (true-false (sym e ∙ ap is_some (h a))))

pub total-all : {P T : Type 0} (t : Table) (keeps : ℕ → Key → Bool) (now : Moment P T) → StandsFor t keeps now → (k : Key) → total k now ≡ total_by t k
unfolding total_by
total-all t keeps now st k =
    let go : (o : Option ℕ) → slot_for t k ≡ o → total k now ≡ by o (total_for t) None =
    elim [
      | None ↦ λ e. total-absent k now (λ a. st.limits a k ∙ limit_by-none t a k e)
      | Some slot ↦ λ e. total-table t keeps now st k slot (key_at-found t k slot e)
    ] in
    go (slot_for t k) refl

-- what differs
pub differs-at : {P T : Type 0} (t : Table) (w : ℕ) (k : Key) (slot : ℕ) (now : Moment P T) → known w k now ≡ (view_for t w slot).known → is_outdated w k now ≡ (view_for t w slot).outdated → total k now ≡ total_for t slot → differs w k now ≡ differs_for t w slot
unfolding differs differs_for
differs-at t w k slot now e f g =
    ap (λ o. not (same_total o (total k now)) || is_outdated w k now) e
    ∙ ap (λ o. not (same_total (view_for t w slot).known o) || is_outdated w k now) g
    ∙ ap (λ b. not (same_total (view_for t w slot).known (total_for t slot)) || b) f

pub differs-used : (t : Table) (w slot : ℕ) → IsSound t → differs_for t w slot ≡ true → is_used t slot ≡ true
unfolding differs_for
differs-used t w slot s h =
    let go : (c : Bool) → is_used t slot ≡ c → is_used t slot ≡ true =
    elim [
      | true ↦ λ e. e
      | false ↦ λ e. absurd (true-false (sym h ∙ ap (λ v. view_differs v (total_for t slot)) (unused-view t w slot s e) ∙ ap (λ o. not (same_total None o) || false) (unused-total t slot s e)))
    ] in
    go (is_used t slot) refl

-- what a watcher is told
pub tell-table : {P T : Type 0} (t : Table) (keeps : ℕ → Key → Bool) (now : Moment P T) → StandsFor t keeps now → (w : ℕ) (k : Key) (slot : ℕ) → key_at t slot ≡ Some k → (want_of w now k).total ≡ total_to_tell t w slot
unfolding total_to_tell
tell-table t keeps now st w k slot own =
    ap (λ b. if b then None else total k now) (st.outdated w k ∙ outdated_by-at t w k slot (st.sound.found slot k own))
    ∙ ap (λ o. if (view_for t w slot).outdated then None else o) (total-table t keeps now st k slot own)

want-equal : (k : Key) (o p : Option ℕ) → o ≡ p → (let x : Want = record { key = k; total = o } in let y : Want = record { key = k; total = p } in x ≡ y)
want-equal k o p e = ap (λ q. let x : Want = record { key = k; total = q } in x) e

pub want-table : {P T : Type 0} (t : Table) (keeps : ℕ → Key → Bool) (now : Moment P T) → StandsFor t keeps now → (w : ℕ) (k : Key) (slot : ℕ) → key_at t slot ≡ Some k → want_for t w slot ≡ Some (want_of w now k)
unfolding want_for
want-table t keeps now st w k slot own =
    ap (λ o. elim o [ None ↦ None | Some j ↦ Some (let x : Want = record { key = j; total = total_to_tell t w slot } in x) ]) own
    ∙ ap (λ x. Some x) (want-equal k (total_to_tell t w slot) (want_of w now k).total (sym (tell-table t keeps now st w k slot own)))

-- the first wants of a list of slots that all have keys
wants-of : {P T : Type 0} (t : Table) (keeps : ℕ → Key → Bool) (now : Moment P T) → StandsFor t keeps now → (w max : ℕ) (list : List ℕ) → ((slot : ℕ) → has list slot ≡ true → is_some (key_at t slot) ≡ true) → filter_map (want_for t w) (take max list) ≡ map (want_of w now) (take max (keys_at t list))
unfolding keys_at
wants-of t keeps now st w zero list h = refl
wants-of t keeps now st w (suc max) [] h = refl
wants-of t keeps now st w (suc max) (slot ∷ list) h =
    let named = some-from (key_at t slot) (h slot (has-here slot list)) in
    ap (λ o. cons_option o (filter_map (want_for t w) (take max list))) (want-table t keeps now st w named.0 slot named.1)
    ∙ ap (λ ws. want_of w now named.0 ∷ ws) (wants-of t keeps now st w max list (λ i e. h i (has-later slot list i e)))
    ∙ ap (λ o. map (want_of w now) (take (suc max) (cons_option o (filter_map (key_at t) list)))) (sym named.1)

pub watched-table : {P T : Type 0} (t : Table) (keeps : ℕ → Key → Bool) (now : Moment P T) → StandsFor t keeps now → (w max : ℕ) → w < 8 → watched w max now ≡ wants_for t w max
unfolding watched wants_for
watched-table t keeps now st w max l =
    ap (λ ks. map (want_of w now) (take max ks)) (st.queues w l)
    ∙ sym (wants-of t keeps now st w max (queue_of t w) (λ slot e. st.sound.used slot ∙ differs-used t w slot st.sound (sym (st.sound.queued w slot l) ∙ e)))
