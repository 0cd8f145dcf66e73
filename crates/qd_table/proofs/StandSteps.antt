-- After each call a table stands for the moment with the call's act.
use Rattle.std.proofs.Common.{◌≡◌, inl, inr, ℕ, ◌<◌, Bool, true, false, ◌&&◌, ◌||◌, not, if◌then◌else◌, nat_eq, Option, Some, None, is_some, ◌∷◌, refl, ap, sym, ◌∙◌}
use Rattle.std.specs.List.{filter}
use Rattle.qd_scheme.specs.declared.key.Key.{Key}
use Rattle.qd_scheme.specs.Keys.{key_eq}
use Rattle.qd_scheme.proofs.KeyLaws.{key_eq-true}
use Rattle.qd_pend.specs.Slots.{has, without}
use Rattle.qd_pend.proofs.ListLaws.{same, equal}
use Rattle.qd_sub.specs.Acts.{Subscribed, Unsubscribed, Moment, is_pair}
use Rattle.qd_sub.specs.Subscriptions.{limit_of, subscribed, keys_of, wanted}
use Rattle.qd_sub.specs.Watching.{known, is_outdated, differs}
use Rattle.qd_sub.proofs.SinceLaws.{grown}
use Rattle.qd_sub.proofs.SubscriptionLaws.{subscribed-sub, subscribed-unsub, wanted-subscribed, known-sub, known-unsub}
use Rattle.qd_sub.proofs.StepLaws.{keys_of-sub, keys_of-unsub}
use Rattle.qd_sub.proofs.HeldLaws.{limit_of-sub, limit_of-unsub, wanted-about}
use Rattle.qd_sub.proofs.WatchSteps.{outdated-same, outdated-wanted, outdated-unwanted, differing-about}
use Rattle.qd_slots.specs.declared.holds.Hold.TheVariants.{Subscribed as Active}
use Rattle.qd_slots.specs.Holds.{is_subscribed, is_held}
use Rattle.qd_slots.specs.Views.{no_view, view_after, queued}
use Rattle.qd_slots.proofs.ViewLaws.{queued-out}
use Rattle.qd_table.specs.Tables.{Table, key_at, keys_at, slot_for, hold_for, limit_for, order_of, total_for, view_for, queue_of, differs_for, is_used, limit_by, holds_by, known_by, outdated_by}
use Rattle.qd_table.specs.Steps.{is_cell, IsSlotFor, KeepsUsed, IsSubscribed, IsEnded}
use Rattle.qd_table.specs.Sound.{IsSound}
use Rattle.qd_table.specs.Standing.{StandsFor}
use Rattle.qd_table.proofs.TableLaws.{true-false, some-none, some-same, or-left, by, Moved, by-moved, by-same, limit_for-some, subscribed-held, key_at-found, used-agent, key_at-used, unused, unused-hold, unused-view, unused-limit}
use Rattle.qd_table.proofs.CallSteps.{agent-within, pair-set, subscribed-moved, kept-moved, ended-held, sound-subscribed, sound-ended}
use Rattle.qd_table.proofs.KeyLists.{IsOwn, keys-agree, keys-queued}
use Rattle.qd_table.proofs.StandLaws.{outdated_by-at, known_by-at, wanted-at, total_for-some, total-at, differs-at, differs-used}

-- a slot that is used is its key's
pub own-used : (t : Table) (k : Key) (slot : ℕ) → IsSound t → IsSlotFor t k slot → is_used t slot ≡ true → key_at t slot ≡ Some k
own-used t k slot s own u = elim own [
  | inl o ↦ key_at-found t k slot o
  | inr o ↦ (let f = key_at-used t slot s u in absurd (some-none f.0 (sym f.1 ∙ o.1)))
]

-- the slots of a key
pub only-own : (t : Table) (k : Key) (slot : ℕ) → IsSound t → IsSlotFor t k slot → (i : ℕ) → key_at t i ≡ Some k → i ≡ slot
only-own t k slot s own i e = elim own [
  | inl o ↦ some-same i slot (sym (s.found i k e) ∙ o)
  | inr o ↦ absurd (some-none i (sym (s.found i k e) ∙ o.0))
]

pub own-order : (t : Table) (k : Key) (slot a : ℕ) → IsSound t → IsSlotFor t k slot → IsOwn t k slot (order_of t a)
own-order t k slot a s own = (only-own t k slot s own, λ e. own-used t k slot s own (used-agent t a slot s (subscribed-held (hold_for t a slot) (sym (s.ordered a slot) ∙ e))))

pub own-queue : (t : Table) (k : Key) (slot w : ℕ) → IsSound t → IsSlotFor t k slot → w < 8 → IsOwn t k slot (queue_of t w)
own-queue t k slot w s own l = (only-own t k slot s own, λ e. own-used t k slot s own (differs-used t w slot s (sym (s.queued w slot l) ∙ e)))

-- a slot that is used keeps its key
pub still-named : (old new : Table) (slot i : ℕ) → KeepsUsed old slot new → is_used new i ≡ true → key_at new i ≡ key_at old i
still-named old new slot i h u =
    let go : (c : Bool) → nat_eq i slot ≡ c → key_at new i ≡ key_at old i =
    elim [
      | true ↦ λ e. h i ∙ ap (λ c. if c && not (is_used new slot) then None else key_at old i) e ∙ ap (λ c. if not c then None else key_at old i) (ap (is_used new) (sym (equal i slot e)) ∙ u)
      | false ↦ λ e. h i ∙ ap (λ c. if c && not (is_used new slot) then None else key_at old i) e
    ] in
    go (nat_eq i slot) refl

-- the value that the key sees then
pub by-new : {X : Type 0} (old new : Table) (k : Key) (slot : ℕ) (gone : Bool) → Moved old new k slot gone → (g : ℕ → X) (d : X) → (gone ≡ true → g slot ≡ d) → by (slot_for new k) g d ≡ g slot
by-new old new k slot gone m g d vacated = ap (λ o. by o g d) m.own_new ∙ own gone vacated
  where
    own : (c : Bool) → (c ≡ true → g slot ≡ d) → by (if c then None else Some slot) g d ≡ g slot
    own true v = sym (v refl)
    own false v = refl

pub not-not : (b : Bool) → not b ≡ true → b ≡ false
not-not true h = sym h
not-not false h = refl

-- of a slot without a key
pub gone-limit : (new : Table) (slot : ℕ) → IsSound new → not (is_used new slot) ≡ true → (a : ℕ) → limit_for new a slot ≡ None
gone-limit new slot s e a = unused-limit new a slot s (not-not (is_used new slot) e)

pub gone-view : (new : Table) (slot : ℕ) → IsSound new → not (is_used new slot) ≡ true → (w : ℕ) → view_for new w slot ≡ no_view
gone-view new slot s e w = unused-view new w slot s (not-not (is_used new slot) e)

pub subscribed-limit : {P T : Type 0} (b : ℕ) (k : Key) (now : Moment P T) (o : Option ℕ) → limit_of b k now ≡ o → subscribed b k now ≡ is_some o
unfolding subscribed
subscribed-limit b k now o e = ap is_some e

-- a subscription
pub stands-subscribed : {P T : Type 0} (old new : Table) (keeps : ℕ → Key → Bool) (now : Moment P T) (a : ℕ) (k : Key) (limit slot : ℕ) → StandsFor old keeps now → a < 128 → IsSubscribed old a k limit slot new → StandsFor new keeps (Subscribed a k limit ∷ now)
unfolding limit_by holds_by known_by outdated_by
stands-subscribed old new keeps now a k limit slot st l h = record {
  sound = snew;
  limits = limits;
  held = λ b j. held (is_pair b j a k) b j refl;
  orders = λ b. keys_of-sub b a k limit now ∙ order b (nat_eq b a) refl;
  known = knows;
  outdated = outdated;
  queues = λ w m. differing-about w (Subscribed a k limit) now k refl (λ j. refl)
      ∙ ap (λ ks. if differs w k (Subscribed a k limit ∷ now) then grown key_eq ks k else filter (λ j. not (key_eq k j)) ks) (st.queues w m)
      ∙ ap (λ c. if c then grown key_eq (keys_at old (queue_of old w)) k else filter (λ j. not (key_eq k j)) (keys_at old (queue_of old w))) (differ w)
      ∙ sym (ap (keys_at new) (h.queues w m) ∙ keys-queued new old k slot (queue_of old w) (differs_for new w slot) (own-queue old k slot w s h.found m) elsewhere (λ e. here));
}
  where
    s : IsSound old
    s = st.sound

    snew : IsSound new
    snew = sound-subscribed old new a k limit slot s l h

    m : Moved old new k slot false
    m = subscribed-moved old new a k limit slot s h

    elsewhere : (i : ℕ) → nat_eq i slot ≡ false → key_at new i ≡ key_at old i
    elsewhere i e = h.names i ∙ ap (λ c. if c then Some k else key_at old i) e

    here : key_at new slot ≡ Some k
    here = h.names slot ∙ ap (λ c. if c then Some k else key_at old slot) (same slot)

    limits : (b : ℕ) (j : Key) → limit_of b j (Subscribed a k limit ∷ now) ≡ limit_by new b j
    limits b j =
        limit_of-sub b j a k limit now ∙ ap (λ o. if is_pair b j a k then Some limit else o) (st.limits b j)
        ∙ sym (pair-set old new a k slot false m (limit_for old) (limit_for new) None (Some limit) (λ c v. unused-limit old c slot s (unused old slot s v)) (λ c e. absurd (true-false (sym e))) h.limits b j)

    new-held : (b : ℕ) (j : Key) → holds_by new b j ≡ (if is_pair b j a k then true else holds_by old b j)
    new-held b j = pair-set old new a k slot false m (λ c i. is_held (hold_for old c i)) (λ c i. is_held (hold_for new c i)) false true (λ c v. ap is_held (unused-hold old c slot s (unused old slot s v))) (λ c e. absurd (true-false (sym e)))
        (λ c i. ap is_held (h.holds c i) ∙ elim (is_cell c i a slot) as (λ d. is_held (if d then Active else hold_for old c i) ≡ (if d then true else is_held (hold_for old c i))) [ true ↦ refl | false ↦ refl ]) b j

    held : (c : Bool) (b : ℕ) (j : Key) → is_pair b j a k ≡ c → (subscribed b j (Subscribed a k limit ∷ now) || keeps b j) ≡ holds_by new b j
    held true b j e = ap (λ d. d || keeps b j) (subscribed-sub b j a k limit now ∙ ap (λ d. d || subscribed b j now) e) ∙ sym (new-held b j ∙ ap (λ d. if d then true else holds_by old b j) e)
    held false b j e = ap (λ d. d || keeps b j) (subscribed-sub b j a k limit now ∙ ap (λ d. d || subscribed b j now) e) ∙ st.held b j ∙ sym (new-held b j ∙ ap (λ d. if d then true else holds_by old b j) e)

    order : (b : ℕ) (c : Bool) → nat_eq b a ≡ c → (if c then grown key_eq (keys_of b now) k else keys_of b now) ≡ keys_at new (order_of new b)
    order b true e =
        ap (λ ks. grown key_eq ks k) (st.orders b)
        ∙ sym (ap (keys_at new) (h.orders b ∙ ap (λ c. if c then queued (order_of old b) slot true else order_of old b) e) ∙ keys-queued new old k slot (order_of old b) true (own-order old k slot b s h.found) elsewhere (λ f. here))
    order b false e =
        st.orders b ∙ sym (ap (keys_at new) (h.orders b ∙ ap (λ c. if c then queued (order_of old b) slot true else order_of old b) e) ∙ keys-agree new old (order_of old b) (λ i t. alike b i (nat_eq i slot) refl t))
      where
        alike : (b i : ℕ) (c : Bool) → nat_eq i slot ≡ c → has (order_of old b) i ≡ true → key_at new i ≡ key_at old i
        alike b i true e t = ap (key_at new) (equal i slot e) ∙ here ∙ sym ((own-order old k slot b s h.found).1 (ap (has (order_of old b)) (sym (equal i slot e)) ∙ t)) ∙ ap (key_at old) (sym (equal i slot e))
        alike b i false e t = elsewhere i e

    knows : (w : ℕ) (j : Key) → known w j (Subscribed a k limit ∷ now) ≡ known_by new w j
    knows w j = known-sub w j a k limit now ∙ st.known w j
        ∙ sym (by-same old new k slot false m (λ i. (view_for old w i).known) (λ i. (view_for new w i).known) None (λ v. ap (λ x. x.known) (unused-view old w slot s (unused old slot s v))) (λ e. absurd (true-false (sym e))) (λ i. ap (λ x. x.known) (h.views w i)) j)

    outdated-now : (w : ℕ) (j : Key) (c : Bool) → key_eq j k ≡ c → is_outdated w j (Subscribed a k limit ∷ now) ≡ is_outdated w j now
    outdated-now w j true e = outdated-wanted w j (Subscribed a k limit) now refl (known-sub w j a k limit now)
        (wanted-subscribed a j (Subscribed a k limit ∷ now) (subscribed-sub a j a k limit now ∙ or-left (is_pair a j a k) (subscribed a j now) (ap (λ c. nat_eq a a && c) e ∙ ap (λ c. c && true) (same a))))
    outdated-now w j false e = outdated-same w j (Subscribed a k limit) now refl (known-sub w j a k limit now) (wanted-about (Subscribed a k limit) now j e)

    outdated : (w : ℕ) (j : Key) → is_outdated w j (Subscribed a k limit ∷ now) ≡ outdated_by new w j
    outdated w j = outdated-now w j (key_eq j k) refl ∙ st.outdated w j
        ∙ sym (by-same old new k slot false m (λ i. (view_for old w i).outdated) (λ i. (view_for new w i).outdated) false (λ v. ap (λ x. x.outdated) (unused-view old w slot s (unused old slot s v))) (λ e. absurd (true-false (sym e))) (λ i. ap (λ x. x.outdated) (h.views w i)) j)

    differ : (w : ℕ) → differs w k (Subscribed a k limit ∷ now) ≡ differs_for new w slot
    differ w = differs-at new w k slot (Subscribed a k limit ∷ now)
        (knows w k ∙ by-new old new k slot false m (λ i. (view_for new w i).known) None (λ e. absurd (true-false (sym e))))
        (outdated w k ∙ by-new old new k slot false m (λ i. (view_for new w i).outdated) false (λ e. absurd (true-false (sym e))))
        (total-at new k slot (Subscribed a k limit ∷ now) snew (λ b. limits b k ∙ by-new old new k slot false m (limit_for new b) None (λ e. absurd (true-false (sym e)))))

-- the end of a subscription
pub stands-ended : {P T : Type 0} (old new : Table) (keeps keeps' : ℕ → Key → Bool) (now : Moment P T) (a : ℕ) (k : Key) (slot : ℕ) (keep : Bool) → StandsFor old keeps now → is_subscribed (hold_for old a slot) ≡ true → key_at old slot ≡ Some k → IsEnded old a slot keep new →
    ((b : ℕ) (j : Key) → keeps' b j ≡ (if is_pair b j a k then keep else keeps b j)) → StandsFor new keeps' (Unsubscribed a k ∷ now)
unfolding limit_by holds_by known_by outdated_by
stands-ended old new keeps keeps' now a k slot keep st sub own h kept = record {
  sound = snew;
  limits = limits;
  held = λ b j. held (is_pair b j a k) b j refl;
  orders = λ b. keys_of-unsub b a k now ∙ order b (nat_eq b a) refl;
  known = knows;
  outdated = λ w j. outdated w j (key_eq j k) refl;
  queues = λ w m. differing-about w (Unsubscribed a k) now k refl (λ j. refl)
      ∙ ap (λ ks. if differs w k (Unsubscribed a k ∷ now) then grown key_eq ks k else filter (λ j. not (key_eq k j)) ks) (st.queues w m)
      ∙ ap (λ c. if c then grown key_eq (keys_at old (queue_of old w)) k else filter (λ j. not (key_eq k j)) (keys_at old (queue_of old w))) (differ w)
      ∙ sym (ap (keys_at new) (h.queues w m) ∙ keys-queued new old k slot (queue_of old w) (differs_for new w slot) (own-queue old k slot w s own-slot m) elsewhere
      (λ e. still-named old new slot slot h.names (differs-used new w slot snew e) ∙ own));
}
  where
    s : IsSound old
    s = st.sound

    own-slot : IsSlotFor old k slot
    own-slot = inl (s.found slot k own)

    snew : IsSound new
    snew = sound-ended old new a slot keep s sub k own h

    m : Moved old new k slot (not (is_used new slot))
    m = kept-moved old new k slot s own h.names

    vacant : key_at old slot ≡ None → ⊥
    vacant v = some-none k (sym own ∙ v)

    elsewhere : (i : ℕ) → nat_eq i slot ≡ false → key_at new i ≡ key_at old i
    elsewhere i e = h.names i ∙ ap (λ c. if c && not (is_used new slot) then None else key_at old i) e

    limits : (b : ℕ) (j : Key) → limit_of b j (Unsubscribed a k ∷ now) ≡ limit_by new b j
    limits b j =
        limit_of-unsub b j a k now ∙ ap (λ o. if is_pair b j a k then None else o) (st.limits b j)
        ∙ sym (pair-set old new a k slot (not (is_used new slot)) m (limit_for old) (limit_for new) None None (λ c v. absurd (vacant v)) (λ c e. gone-limit new slot snew e c) h.limits b j)

    held : (c : Bool) (b : ℕ) (j : Key) → is_pair b j a k ≡ c → (subscribed b j (Unsubscribed a k ∷ now) || keeps' b j) ≡ holds_by new b j
    held true b j e =
        ap (λ d. d || keeps' b j) (subscribed-unsub b j a k now ∙ ap (λ d. not d && subscribed b j now) e) ∙ kept b j ∙ ap (λ d. if d then keep else keeps b j) e
        ∙ sym (ended-held old new a k slot keep s own (agent-within old a slot s (subscribed-held (hold_for old a slot) sub)) h b j ∙ ap (λ d. if d then keep else holds_by old b j) e)
    held false b j e =
        ap (λ d. d || keeps' b j) (subscribed-unsub b j a k now ∙ ap (λ d. not d && subscribed b j now) e) ∙ ap (λ d. subscribed b j now || d) (kept b j ∙ ap (λ d. if d then keep else keeps b j) e) ∙ st.held b j
        ∙ sym (ended-held old new a k slot keep s own (agent-within old a slot s (subscribed-held (hold_for old a slot) sub)) h b j ∙ ap (λ d. if d then keep else holds_by old b j) e)

    order : (b : ℕ) (c : Bool) → nat_eq b a ≡ c → (if c then filter (λ j. not (key_eq k j)) (keys_of b now) else keys_of b now) ≡ keys_at new (order_of new b)
    order b true e =
        ap (λ ks. filter (λ j. not (key_eq k j)) ks) (st.orders b)
        ∙ sym (ap (keys_at new) (h.orders b ∙ ap (λ c. if c then without (order_of old b) slot else order_of old b) e ∙ sym (queued-out (order_of old b) slot)) ∙ keys-queued new old k slot (order_of old b) false (own-order old k slot b s own-slot) elsewhere (λ f. absurd (true-false (sym f))))
    order b false e =
        st.orders b ∙ sym (ap (keys_at new) same_order ∙ keys-agree new old (order_of old b) (λ i t. still-named old new slot i h.names (used-agent new b i snew (subscribed-held (hold_for new b i) (sym (snew.ordered b i) ∙ ap (λ xs. has xs i) same_order ∙ t)))))
      where
        same_order : order_of new b ≡ order_of old b
        same_order = h.orders b ∙ ap (λ c. if c then without (order_of old b) slot else order_of old b) e

    knows : (w : ℕ) (j : Key) → known w j (Unsubscribed a k ∷ now) ≡ known_by new w j
    knows w j = known-unsub w j a k now ∙ st.known w j
        ∙ sym (by-same old new k slot (not (is_used new slot)) m (λ i. (view_for old w i).known) (λ i. (view_for new w i).known) None (λ v. absurd (vacant v)) (λ e. ap (λ x. x.known) (gone-view new slot snew e w))
        (λ i. ap (λ x. x.known) (h.views w i) ∙ elim (nat_eq i slot) as (λ c. (if c then view_after (view_for old w i) (total_for new slot) else view_for old w i).known ≡ (view_for old w i).known) [ true ↦ refl | false ↦ refl ]) j)

    at-new : (w : ℕ) → by (slot_for new k) (λ i. (view_for new w i).outdated) false ≡ (view_for new w slot).outdated
    at-new w = by-new old new k slot (not (is_used new slot)) m (λ i. (view_for new w i).outdated) false (λ e. ap (λ x. x.outdated) (gone-view new slot snew e w))

    subscribed-new : (b : ℕ) → subscribed b k (Unsubscribed a k ∷ now) ≡ is_subscribed (hold_for new b slot)
    subscribed-new b = subscribed-limit b k (Unsubscribed a k ∷ now) (limit_for new b slot) (limits b k ∙ by-new old new k slot (not (is_used new slot)) m (limit_for new b) None (λ e. gone-limit new slot snew e b)) ∙ limit_for-some new b slot

    view-here : (w : ℕ) → view_for new w slot ≡ view_after (view_for old w slot) (total_for new slot)
    view-here w = h.views w slot ∙ ap (λ c. if c then view_after (view_for old w slot) (total_for new slot) else view_for old w slot) (same slot)

    wanted-new : wanted k (Unsubscribed a k ∷ now) ≡ is_some (total_for new slot)
    wanted-new = wanted-at new k slot (Unsubscribed a k ∷ now) snew subscribed-new ∙ sym (total_for-some new slot)

    outdated-own : (w : ℕ) (c : Bool) → is_some (total_for new slot) ≡ c → is_outdated w k (Unsubscribed a k ∷ now) ≡ (view_for new w slot).outdated
    outdated-own w true e =
        outdated-wanted w k (Unsubscribed a k) now refl (known-unsub w k a k now) (wanted-new ∙ e) ∙ st.outdated w k ∙ outdated_by-at old w k slot (s.found slot k own)
        ∙ sym (ap (λ x. x.outdated) (view-here w) ∙ ap (λ c. (view_for old w slot).outdated || (is_some (view_for old w slot).known && not c)) e ∙ plain (view_for old w slot).outdated (is_some (view_for old w slot).known))
      where
        plain : (p q : Bool) → (p || (q && false)) ≡ p
        plain true q = refl
        plain false true = refl
        plain false false = refl
    outdated-own w false e =
        outdated-unwanted w k (Unsubscribed a k) now refl (known-unsub w k a k now) (wanted-new ∙ e) ∙ ap is_some (st.known w k ∙ known_by-at old w k slot (s.found slot k own))
        ∙ sym (ap (λ x. x.outdated) (view-here w) ∙ ap (λ c. (view_for old w slot).outdated || (is_some (view_for old w slot).known && not c)) e ∙ whole (view_for old w slot).outdated (is_some (view_for old w slot).known) (s.outdated w slot))
      where
        whole : (p q : Bool) → (p ≡ true → q ≡ true) → (p || (q && true)) ≡ q
        whole true q f = sym (f refl)
        whole false true f = refl
        whole false false f = refl

    outdated : (w : ℕ) (j : Key) (c : Bool) → key_eq j k ≡ c → is_outdated w j (Unsubscribed a k ∷ now) ≡ outdated_by new w j
    outdated w j true e =
        ap (λ x. is_outdated w x (Unsubscribed a k ∷ now)) (key_eq-true j k e) ∙ outdated-own w (is_some (total_for new slot)) refl ∙ sym (at-new w)
        ∙ ap (λ x. by (slot_for new x) (λ i. (view_for new w i).outdated) false) (sym (key_eq-true j k e))
    outdated w j false e =
        outdated-same w j (Unsubscribed a k) now refl (known-unsub w j a k now) (wanted-about (Unsubscribed a k) now j e) ∙ st.outdated w j
        ∙ sym (by-moved old new k slot (not (is_used new slot)) m (λ i. (view_for old w i).outdated) (λ i. (view_for new w i).outdated) false (λ f. ap (λ x. x.outdated) (gone-view new slot snew f w))
        (λ i f. ap (λ x. x.outdated) (h.views w i ∙ ap (λ c. if c then view_after (view_for old w i) (total_for new slot) else view_for old w i) f)) j
        ∙ ap (λ c. if c then (view_for new w slot).outdated else by (slot_for old j) (λ i. (view_for old w i).outdated) false) e)

    differ : (w : ℕ) → differs w k (Unsubscribed a k ∷ now) ≡ differs_for new w slot
    differ w = differs-at new w k slot (Unsubscribed a k ∷ now)
        (knows w k ∙ by-new old new k slot (not (is_used new slot)) m (λ i. (view_for new w i).known) None (λ e. ap (λ x. x.known) (gone-view new slot snew e w)))
        (outdated-own w (is_some (total_for new slot)) refl)
        (total-at new k slot (Unsubscribed a k ∷ now) snew (λ b. limits b k ∙ by-new old new k slot (not (is_used new slot)) m (limit_for new b) None (λ e. gone-limit new slot snew e b)))
