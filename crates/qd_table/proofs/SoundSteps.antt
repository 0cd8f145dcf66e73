-- A table that is sound is so after each call.
use Rattle.std.proofs.Common.{◌≡◌, ◌⊎◌, inl, inr, ℕ, ◌<◌, ◌≤◌, ◌+◌, ◌-◌, Bool, true, false, ◌&&◌, ◌||◌, not, if◌then◌else◌, nat_eq, Some, is_some, List, ◌∷◌, length, refl, ap, sym, ◌∙◌, arith, subst}
use Rattle.std.specs.List.{list_any, filter}
use Rattle.qd_scheme.specs.declared.key.Key.{Key}
use Rattle.qd_sub.specs.Acts.{is_pair}
use Rattle.qd_sub.specs.Subscriptions.{least}
use Rattle.qd_sub.proofs.OrderLaws.{once-filter, any-filter}
use Rattle.qd_sub.proofs.StepLaws.{pair_eq, pair_eq-true, pair_eq-comm, pair_eq-same}
use Rattle.qd_pend.specs.Slots.{has, EachOnce}
use Rattle.qd_pend.proofs.ListLaws.{equal}
use Rattle.qd_slots.specs.declared.holds.Hold.TheVariants.{Free}
use Rattle.qd_slots.specs.Holds.{is_subscribed, is_held}
use Rattle.qd_slots.specs.Views.{no_view, view_differs, queued, queued_again}
use Rattle.qd_table.specs.Tables.{Table, key_at, slot_for, below, hold_for, limit_for, total_for, order_of, pairs_in, view_for, queue_of, differs_for, is_used, holds_by}
use Rattle.qd_table.specs.Sound.{IsSound, EachPairOnce}
use Rattle.qd_table.proofs.TableLaws.{or-left, apart-numbers, below-any, below-same}
use Rattle.qd_table.proofs.ListLaws.{queued-other, queued-own, queued-once, again-other, again-own, again-once, gives-same, once-each, each-once, length-less}

-- a call changes one slot alone, and orders and queues follow
pub record IsStep (old new : Table) (slot : ℕ) : Type 0 where
  pub names : (i : ℕ) → nat_eq i slot ≡ false → key_at new i ≡ key_at old i
  pub holds : (b i : ℕ) → nat_eq i slot ≡ false → hold_for new b i ≡ hold_for old b i
  pub limits : (b i : ℕ) → nat_eq i slot ≡ false → limit_for new b i ≡ limit_for old b i
  pub views : (w i : ℕ) → nat_eq i slot ≡ false → view_for new w i ≡ view_for old w i
  pub orders : (b : ℕ) → order_of new b ≡ queued (order_of old b) slot (is_subscribed (hold_for new b slot))
  pub queues : (w : ℕ) → w < 8 → (queue_of new w ≡ queued (queue_of old w) slot (differs_for new w slot)) ⊎ (queue_of new w ≡ queued_again (queue_of old w) slot (differs_for new w slot))
  pub used : is_some (key_at new slot) ≡ is_used new slot
  pub agents : (b : ℕ) → 128 ≤ b → hold_for new b slot ≡ Free
  pub watchers : (w : ℕ) → 8 ≤ w → view_for new w slot ≡ no_view
  pub outdated : (w : ℕ) → (view_for new w slot).outdated ≡ true → is_some (view_for new w slot).known ≡ true

pub total_for-same : (old new : Table) (i : ℕ) → ((b : ℕ) → limit_for new b i ≡ limit_for old b i) → total_for new i ≡ total_for old i
unfolding total_for
total_for-same old new i h = ap least (gives-same (λ a. limit_for new a i) (λ a. limit_for old a i) 128 h)

pub differs_for-same : (old new : Table) (w i : ℕ) → view_for new w i ≡ view_for old w i → total_for new i ≡ total_for old i → differs_for new w i ≡ differs_for old w i
unfolding differs_for
differs_for-same old new w i e f = ap (λ v. view_differs v (total_for new i)) e ∙ ap (λ o. view_differs (view_for old w i) o) f

pub is_used-same : (old new : Table) (i : ℕ) → ((b : ℕ) → is_held (hold_for new b i) ≡ is_held (hold_for old b i)) → ((w : ℕ) → (view_for new w i).known ≡ (view_for old w i).known) → is_used new i ≡ is_used old i
unfolding is_used
is_used-same old new i h v =
    ap (λ c. c || list_any (λ w. is_some (view_for new w i).known) (below 8)) (below-same (λ a. is_held (hold_for new a i)) (λ a. is_held (hold_for old a i)) 128 h)
    ∙ ap (λ c. list_any (λ a. is_held (hold_for old a i)) (below 128) || c) (below-same (λ w. is_some (view_for new w i).known) (λ w. is_some (view_for old w i).known) 8 (λ w. ap is_some (v w)))

pub used-held : (t : Table) (a slot : ℕ) → a < 128 → is_held (hold_for t a slot) ≡ true → is_used t slot ≡ true
unfolding is_used
used-held t a slot l h = or-left _ _ (below-any (λ b. is_held (hold_for t b slot)) 128 a l h)

pub sound-step : (old new : Table) (slot : ℕ) → IsSound old → IsStep old new slot → ((i : ℕ) (j : Key) → key_at new i ≡ Some j → slot_for new j ≡ Some i) →
    ((ps : List (ℕ × Key)) → EachPairOnce ps → ((a : ℕ) (k : Key) → list_any (λ q. is_pair a k q.0 q.1) ps ≡ holds_by new a k) → length ps ≡ pairs_in new) → IsSound new
sound-step old new slot s h found counted = record {
  found = found;
  used = λ i. by_slot (λ j. is_some (key_at new j) ≡ is_used new j) i h.used (λ e. ap is_some (h.names i e) ∙ s.used i ∙ sym (is_used-same old new i (λ b. ap is_held (h.holds b i e)) (λ w. ap (λ v. v.known) (h.views w i e))));
  agents = λ a i m. by_slot (λ j. hold_for new a j ≡ Free) i (h.agents a m) (λ e. h.holds a i e ∙ s.agents a i m);
  watchers = λ w i m. by_slot (λ j. view_for new w j ≡ no_view) i (h.watchers w m) (λ e. h.views w i e ∙ s.watchers w i m);
  ordered = λ a i. ap (λ xs. has xs i) (h.orders a) ∙ by_slot (λ j. has (queued (order_of old a) slot (is_subscribed (hold_for new a slot))) j ≡ is_subscribed (hold_for new a j)) i
      (queued-own (order_of old a) slot (is_subscribed (hold_for new a slot)))
      (λ e. queued-other (order_of old a) slot (is_subscribed (hold_for new a slot)) i (apart-numbers i slot e) ∙ s.ordered a i ∙ sym (ap is_subscribed (h.holds a i e)));
  ordered_once = λ a. subst (λ (xs : List ℕ). EachOnce xs) (sym (h.orders a)) (queued-once (order_of old a) slot (is_subscribed (hold_for new a slot)) (s.ordered_once a));
  queued = λ w i l. elim (h.queues w l) [
    | inl q ↦ ap (λ xs. has xs i) q ∙ by_slot (λ j. has (queued (queue_of old w) slot (differs_for new w slot)) j ≡ differs_for new w j) i
        (queued-own (queue_of old w) slot (differs_for new w slot))
        (λ e. queued-other (queue_of old w) slot (differs_for new w slot) i (apart-numbers i slot e) ∙ s.queued w i l ∙ sym (elsewhere w i e))
    | inr q ↦ ap (λ xs. has xs i) q ∙ by_slot (λ j. has (queued_again (queue_of old w) slot (differs_for new w slot)) j ≡ differs_for new w j) i
        (again-own (queue_of old w) slot (differs_for new w slot))
        (λ e. again-other (queue_of old w) slot (differs_for new w slot) i (apart-numbers i slot e) ∙ s.queued w i l ∙ sym (elsewhere w i e))
  ];
  queued_once = λ w l. elim (h.queues w l) [
    | inl q ↦ subst (λ (xs : List ℕ). EachOnce xs) (sym q) (queued-once (queue_of old w) slot (differs_for new w slot) (s.queued_once w l))
    | inr q ↦ subst (λ (xs : List ℕ). EachOnce xs) (sym q) (again-once (queue_of old w) slot (differs_for new w slot) (s.queued_once w l))
  ];
  outdated = λ w i. by_slot (λ j. (view_for new w j).outdated ≡ true → is_some (view_for new w j).known ≡ true) i (h.outdated w)
      (λ e o. ap (λ v. is_some v.known) (h.views w i e) ∙ s.outdated w i (sym (ap (λ v. v.outdated) (h.views w i e)) ∙ o));
  counted = counted;
}
  where
    by_slot : (C : ℕ → Type 0) (i : ℕ) → C slot → (nat_eq i slot ≡ false → C i) → C i
    by_slot C i here there =
        let go : (c : Bool) → nat_eq i slot ≡ c → C i =
        elim [ true ↦ λ e. subst C (sym (equal i slot e)) here | false ↦ λ e. there e ] in
        go (nat_eq i slot) refl

    elsewhere : (w i : ℕ) → nat_eq i slot ≡ false → differs_for new w i ≡ differs_for old w i
    elsewhere w i e = differs_for-same old new w i (h.views w i e) (total_for-same old new i (λ b. h.limits b i e))

-- the number of pairs
pub counted-same : (old new : Table) → IsSound old → ((a : ℕ) (k : Key) → holds_by new a k ≡ holds_by old a k) → pairs_in new ≡ pairs_in old →
    (ps : List (ℕ × Key)) → EachPairOnce ps → ((a : ℕ) (k : Key) → list_any (λ q. is_pair a k q.0 q.1) ps ≡ holds_by new a k) → length ps ≡ pairs_in new
counted-same old new s h e ps o m = s.counted ps o (λ a k. m a k ∙ h a k) ∙ sym e

pub counted-more : (old new : Table) (a : ℕ) (k : Key) → IsSound old → ((b : ℕ) (j : Key) → holds_by new b j ≡ (is_pair b j a k || holds_by old b j)) → pairs_in new ≡ (if holds_by old a k then pairs_in old else pairs_in old + 1) →
    (ps : List (ℕ × Key)) → EachPairOnce ps → ((b : ℕ) (j : Key) → list_any (λ q. is_pair b j q.0 q.1) ps ≡ holds_by new b j) → length ps ≡ pairs_in new
counted-more old new a k s h e ps o m =
    let go : (c : Bool) → holds_by old a k ≡ c → length ps ≡ (if c then pairs_in old else pairs_in old + 1) =
    elim [
      | true ↦ λ t. s.counted ps o (λ b j. m b j ∙ h b j ∙ held b j (is_pair b j a k) refl t)
      | false ↦ λ t. (let less = s.counted (filter (λ q. not (pair_eq (a, k) q)) ps) (once-each _ (once-filter pair_eq pair_eq-true (λ q. not (pair_eq (a, k) q)) ps (each-once ps o)))
          (λ b j. any-filter pair_eq pair_eq-true (λ q. not (pair_eq (a, k) q)) ps (b, j) ∙ ap (λ c. not (pair_eq (a, k) (b, j)) && c) (m b j ∙ h b j) ∙ free b j (is_pair b j a k) refl t) in
          let one = length-less (a, k) ps (each-once ps o) (m a k ∙ h a k ∙ or-left (is_pair a k a k) (holds_by old a k) (pair_eq-same (a, k))) in
          omega (arith, less, one))
    ] in
    go (holds_by old a k) refl ∙ sym e
  where
    pair-is : (b : ℕ) (j : Key) → is_pair b j a k ≡ true → holds_by old b j ≡ holds_by old a k
    pair-is b j e = ap (λ (p : ℕ × Key). holds_by old p.0 p.1) (pair_eq-true (b, j) (a, k) e)

    held : (b : ℕ) (j : Key) (c : Bool) → is_pair b j a k ≡ c → holds_by old a k ≡ true → (c || holds_by old b j) ≡ holds_by old b j
    held b j true e t = sym (pair-is b j e ∙ t)
    held b j false e t = refl

    free : (b : ℕ) (j : Key) (c : Bool) → is_pair b j a k ≡ c → holds_by old a k ≡ false → (not (is_pair a k b j) && (is_pair b j a k || holds_by old b j)) ≡ holds_by old b j
    free b j true e t = let f : is_pair a k b j ≡ true = pair_eq-comm (a, k) (b, j) ∙ e in rw f (sym (pair-is b j e ∙ t))
    free b j false e t = let f : is_pair a k b j ≡ false = pair_eq-comm (a, k) (b, j) ∙ e in rw (f, e) refl

pub counted-less : (old new : Table) (a : ℕ) (k : Key) → IsSound old → holds_by old a k ≡ true → ((b : ℕ) (j : Key) → holds_by new b j ≡ (not (is_pair b j a k) && holds_by old b j)) → pairs_in new ≡ pairs_in old - 1 →
    (ps : List (ℕ × Key)) → EachPairOnce ps → ((b : ℕ) (j : Key) → list_any (λ q. is_pair b j q.0 q.1) ps ≡ holds_by new b j) → length ps ≡ pairs_in new
unfolding EachPairOnce
counted-less old new a k s t h e ps o m =
    let more = s.counted ((a, k) ∷ ps) (absent, o) (λ b j. ap (λ c. is_pair b j a k || c) (m b j ∙ h b j) ∙ joined b j (is_pair b j a k) refl) in
    omega (arith, more, e)
  where
    absent : list_any (λ q. is_pair a k q.0 q.1) ps ≡ false
    absent = m a k ∙ h a k ∙ ap (λ c. not c && holds_by old a k) (pair_eq-same (a, k))

    joined : (b : ℕ) (j : Key) (c : Bool) → is_pair b j a k ≡ c → (c || (not c && holds_by old b j)) ≡ holds_by old b j
    joined b j true f = sym (ap (λ (p : ℕ × Key). holds_by old p.0 p.1) (pair_eq-true (b, j) (a, k) f) ∙ t)
    joined b j false f = refl
