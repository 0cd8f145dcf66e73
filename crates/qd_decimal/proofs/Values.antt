-- The number of an accepted text.
use Rattle.std.proofs.Common.{◌≡◌, ℕ, suc, ◌+◌, ◌-◌, ◌*◌, ◌^◌, ◌<◌, ◌≤◌, Bool, true, false, List, [], ◌∷◌, ◌++◌, length, refl, sym, ◌∙◌, ap, arith, inl, inr}
use Rattle.std.specs.Prelude.{◌==◌, ◌⊎◌, not, nat_lt, nat_le, Option, Some, None, Ok, Err}
use Rattle.std.proofs.lemmas.Bool.Decides.{nat_tests}
use Rattle.std.proofs.Math.Nat.{one-le-pow}
use Rattle.qd_decimal.specs.Grammar.{number_of, scaled, signed}
use Rattle.qd_decimal.specs.Numbers.{fitting, with_digit, with_digits, times, reach, signed_fit}
use Rattle.qd_decimal.specs.declared.fault.DecFault.TheVariants.{TooLarge}

pow_pos : (n : ℕ) → 1 ≤ 10 ^ n
pow_pos n = one-le-pow n 10 (omega arith)

pow_more : (n : ℕ) → 10 ^ suc n ≡ 10 * 10 ^ n
pow_more n = grind arith

none_digits : (ds : List ℕ) → with_digits None ds ≡ None
none_digits [] = refl
none_digits (d ∷ ds) = none_digits ds

pub fits : (n : ℕ) → n < 2 ^ 64 → fitting n ≡ Some n
fits n h = let t : nat_lt n (2 ^ 64) ≡ true = grind (arith, nat_tests) in rw t refl

pub no_fit : (n : ℕ) → 2 ^ 64 ≤ n → fitting n ≡ None
no_fit n h = let t : nat_lt n (2 ^ 64) ≡ false = grind (arith, nat_tests) in rw t refl

pub lt_or_le : (a b : ℕ) → (a < b) ⊎ (b ≤ a)
lt_or_le a b = go (nat_lt a b) refl
  where
    go : (t : Bool) → nat_lt a b ≡ t → (a < b) ⊎ (b ≤ a)
    go true e = inl (grind (arith, nat_tests))
    go false e = inr (grind (arith, nat_tests))

grows : (n p r : ℕ) → 1 ≤ p → n ≤ n * p + r
grows n p r h = grind arith

digit_sum : (m d p r : ℕ) → (m * 10 + d) * p + r ≡ m * (10 * p) + (d * p + r)
digit_sum m d p r = omega arith

-- digits behind a number that fits
pub sum_digits : (m : ℕ) (ds : List ℕ) → with_digits (fitting m) ds ≡ fitting (m * 10 ^ length ds + number_of ds)
sum_digits m [] = ap fitting (omega arith)
sum_digits m (d ∷ ds) = elim (lt_or_le m (2 ^ 64)) [
  | inl l ↦ rw (fits m l) (sum_digits (m * 10 + (d - 48)) ds ∙ ap fitting (digit_sum m (d - 48) (10 ^ length ds) (number_of ds) ∙ ap (λ p. m * p + ((d - 48) * 10 ^ length ds + number_of ds)) (sym (pow_more (length ds)))))
  | inr l ↦ rw (no_fit m l) (none_digits ds ∙ sym (no_fit _ (big m (10 ^ suc (length ds)) ((d - 48) * 10 ^ length ds + number_of ds) l (pow_pos (suc (length ds))))))
]
  where
    big : (n p r : ℕ) → 2 ^ 64 ≤ n → 1 ≤ p → 2 ^ 64 ≤ n * p + r
    big n p r h k = omega (arith, grows n p r k)

pub append_digits : (v : Option ℕ) (a b : List ℕ) → with_digits (with_digits v a) b ≡ with_digits v (a ++ b)
append_digits v [] b = refl
append_digits v (d ∷ a) b = append_digits (with_digit v d) a b

pub times_fit : (n p : ℕ) → 1 ≤ p → times (fitting n) p ≡ fitting (n * p)
times_fit n p h = elim (lt_or_le n (2 ^ 64)) [
  | inl l ↦ rw (fits n l) refl
  | inr l ↦ rw (no_fit n l) (sym (no_fit (n * p) (omega (arith, grows n p 0 h))))
]

-- the number of the digits, scaled, where 64 bits have it
pub magnitude : (whole kept : List ℕ) (k : ℕ) → times (with_digits (with_digits (Some 0) whole) kept) (10 ^ k) ≡ fitting (number_of (whole ++ kept) * 10 ^ k)
magnitude whole kept k = ap (λ v. times v (10 ^ k)) (append_digits (Some 0) whole kept ∙ sum_digits 0 (whole ++ kept) ∙ ap fitting (omega arith)) ∙ times_fit (number_of (whole ++ kept)) (10 ^ k) (pow_pos k)

-- a sum that fits is told, and one that does not is too large
pub fit_ok : (negative : Bool) (n : ℕ) → n ≤ reach negative → signed_fit negative (fitting n) ≡ Ok (signed negative n)
fit_ok true n h = let t : nat_le n (2 ^ 63) ≡ true = grind (arith, nat_tests) in rw (fits n (omega arith)) (rw t refl)
fit_ok false n h = let t : nat_le n (2 ^ 63 - 1) ≡ true = grind (arith, nat_tests) in rw (fits n (omega arith)) (rw t refl)

pub fit_large : (negative : Bool) (n : ℕ) → reach negative < n → signed_fit negative (fitting n) ≡ Err TooLarge
fit_large true n h = elim (lt_or_le n (2 ^ 64)) [
  | inl l ↦ let t : nat_le n (2 ^ 63) ≡ false = grind (arith, nat_tests) in rw (fits n l) (rw t refl)
  | inr l ↦ rw (no_fit n l) refl
]
fit_large false n h = elim (lt_or_le n (2 ^ 64)) [
  | inl l ↦ let t : nat_le n (2 ^ 63 - 1) ≡ false = grind (arith, nat_tests) in rw (fits n l) (rw t refl)
  | inr l ↦ rw (no_fit n l) refl
]
