-- Sums over lists of slots, and how many events are owed to an agent after one slot's feed changed.
use Rattle.std.proofs.Common.{◌≡◌, ℕ, ◌+◌, ◌≤◌, Bool, true, false, ◌||◌, not, if◌then◌else◌, nat_eq, List, [], ◌∷◌, ◌++◌, length, map, refl, ap, sym, ◌∙◌, arith}
use Rattle.std.specs.Prelude.{sum}
use Rattle.std.proofs.lemmas.List.{map-append}
use Rattle.std.proofs.lemmas.List.Sums.{sum_by-cons, sum_by_push}
use Rattle.qd_pend.specs.Slots.{has, without, EachOnce}
use Rattle.qd_pend.proofs.ListLaws.{equal, has-here, has-later, has-without_same, without-absent}
use Rattle.qd_slots.specs.Holds.{is_subscribed}
use Rattle.qd_table.specs.Tables.{hold_for, order_of}
use Rattle.qd_table.proofs.TableLaws.{true-false}
use Rattle.qd_hist_rules.specs.Moments.{HistMoment}
use Rattle.qd_hist_feed.specs.Feeding.{Feeding}
use Rattle.qd_hist_stand.specs.Stripes.{Shown, StandsAt, feed_at, owed_at, owed_of}

sum-cons : (f : ℕ → ℕ) (x : ℕ) (xs : List ℕ) → sum (map f (x ∷ xs)) ≡ f x + sum (map f xs)
sum-cons f x xs = sum_by-cons (λ (n : ℕ). n) (f x) (map f xs)

-- two that agree on the slots of a list
pub sum-agree : (f g : ℕ → ℕ) (list : List ℕ) → ((i : ℕ) → has list i ≡ true → g i ≡ f i) → sum (map g list) ≡ sum (map f list)
sum-agree f g [] h = refl
sum-agree f g (x ∷ xs) h =
    sum-cons g x xs ∙ ap (λ (n : ℕ). n + sum (map g xs)) (h x (has-here x xs)) ∙ ap (λ (n : ℕ). f x + n) (sum-agree f g xs (λ i t. h i (has-later x xs i t))) ∙ sym (sum-cons f x xs)

pub sum-none : (f : ℕ → ℕ) (list : List ℕ) → ((i : ℕ) → f i ≡ 0) → sum (map f list) ≡ 0
sum-none f [] h = refl
sum-none f (x ∷ xs) h =
    let whole : sum (map f (x ∷ xs)) ≡ f x + sum (map f xs) = sum-cons f x xs in
    let first : f x ≡ 0 = h x in
    let rest : sum (map f xs) ≡ 0 = sum-none f xs h in
    omega (arith, whole, first, rest)

pub sum-push : (f : ℕ → ℕ) (list : List ℕ) (slot : ℕ) → sum (map f (list ++ slot ∷ [])) ≡ sum (map f list) + f slot
sum-push f list slot = ap (λ (ns : List ℕ). sum ns) (map-append f list (slot ∷ [])) ∙ sum_by_push (λ (n : ℕ). n) (map f list) (f slot)

-- a slot that stands in a list once
pub sum-without : (f : ℕ → ℕ) (slot : ℕ) (list : List ℕ) → EachOnce list → has list slot ≡ true → sum (map f (without list slot)) + f slot ≡ sum (map f list)
unfolding EachOnce
sum-without f slot [] once h = absurd (true-false (sym h))
sum-without f slot (x ∷ xs) once h = go (λ t. sum-without f slot xs once.1 t) (nat_eq slot x) refl
  where
    later : (b : Bool) → nat_eq slot x ≡ b → b ≡ false → has xs slot ≡ true
    later b e z = sym (ap (λ (c : Bool). c || has xs slot) (e ∙ z)) ∙ h

    go : (has xs slot ≡ true → sum (map f (without xs slot)) + f slot ≡ sum (map f xs)) → (b : Bool) → nat_eq slot x ≡ b → sum (map f (if not b then x ∷ without xs slot else without xs slot)) + f slot ≡ sum (map f (x ∷ xs))
    go ih true e =
        let here : slot ≡ x = equal slot x e in
        let gone : without xs slot ≡ xs = without-absent xs slot (ap (has xs) here ∙ once.0) in
        let whole : sum (map f (x ∷ xs)) ≡ f x + sum (map f xs) = sum-cons f x xs in
        let less : sum (map f (without xs slot)) ≡ sum (map f xs) = ap (λ (ys : List ℕ). sum (map f ys)) gone in
        let same_number : f slot ≡ f x = ap f here in
        omega (arith, whole, less, same_number)
    go ih false e =
        let rest : sum (map f (without xs slot)) + f slot ≡ sum (map f xs) = ih (later false e refl) in
        let whole : sum (map f (x ∷ xs)) ≡ f x + sum (map f xs) = sum-cons f x xs in
        let less : sum (map f (x ∷ without xs slot)) ≡ f x + sum (map f (without xs slot)) = sum-cons f x (without xs slot) in
        omega (arith, rest, whole, less)

-- two that agree but at one slot of a list
pub sum-with : (f g : ℕ → ℕ) (slot : ℕ) (list : List ℕ) → EachOnce list → has list slot ≡ true → ((i : ℕ) → nat_eq i slot ≡ false → g i ≡ f i) → sum (map g list) + f slot ≡ sum (map f list) + g slot
sum-with f g slot list once h alike =
    let old : sum (map f (without list slot)) + f slot ≡ sum (map f list) = sum-without f slot list once h in
    let new : sum (map g (without list slot)) + g slot ≡ sum (map g list) = sum-without g slot list once h in
    let both : sum (map g (without list slot)) ≡ sum (map f (without list slot)) = sum-agree f g (without list slot) (λ i t. alike i (apart i t)) in
    omega (arith, old, new, both)
  where
    apart : (i : ℕ) → has (without list slot) i ≡ true → nat_eq i slot ≡ false
    apart i t =
        let go : (b : Bool) → nat_eq i slot ≡ b → nat_eq i slot ≡ false =
        elim [
          | true ↦ λ e. absurd (true-false (sym t ∙ ap (has (without list slot)) (equal i slot e) ∙ has-without_same list slot))
          | false ↦ λ e. e
        ] in
        go (nat_eq i slot) refl

-- how many events are owed of a slot
abbrev pub owed_in : Shown → ℕ → ℕ → ℕ
owed_in s a slot = length (feed_at s a slot).owed

-- of one slot no more events are owed to an agent than in all
pub pair-owed : (s : Shown) (now : HistMoment) → StandsAt s now → (a slot : ℕ) → owed_in s a slot ≤ owed_at s a
pair-owed s now st a slot = go (is_subscribed (hold_for s.table a slot)) refl
  where
    go : (b : Bool) → is_subscribed (hold_for s.table a slot) ≡ b → owed_in s a slot ≤ owed_at s a
    go true e =
        let parts : sum (map (owed_in s a) (without (order_of s.table a) slot)) + owed_in s a slot ≡ owed_of s a (order_of s.table a) =
        sum-without (owed_in s a) slot (order_of s.table a) (st.table.sound.ordered_once a) (st.table.sound.ordered a slot ∙ e) in
        let whole : owed_at s a ≡ owed_of s a (order_of s.table a) = st.owed a in
        omega (arith, parts, whole)
    go false e = let none : owed_in s a slot ≡ 0 = ap (λ (f : Feeding). length f.owed) (st.unfed a slot e) in omega (arith, none)
