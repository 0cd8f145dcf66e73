-- The texts of the grammar are those that reading accepts.
use Rattle.std.proofs.Common.{◌≡◌, ℕ, suc, ◌+◌, ◌-◌, ◌<◌, ◌≤◌, Bool, true, false, cond, List, [], ◌∷◌, ◌++◌, length, get_or, drop, refl, sym, ◌∙◌, ap, min, arith, length-append}
use Rattle.std.specs.Prelude.{◌==◌, ◌&&◌, ◌⊎◌, nat_lt, Option, Some, None, Result, Ok, Err}
use Rattle.std.specs.List.{prefix_len}
use Rattle.std.proofs.lemmas.Bool.Decides.{nat_tests}
use Rattle.std.proofs.Math.Seq.{drop-append-add}
use Rattle.std.proofs.Math.ListN.{drop_of_length-le}
use Rattle.qd_decimal.specs.Grammar.{is_digit, AreDigits, Parts, sign, behind_point, spelled, AreFraction, AreDecimal}
use Rattle.qd_decimal.specs.declared.fault.DecFault.{DecFault}
use Rattle.qd_decimal.specs.declared.fault.DecFault.TheVariants.{BadByte}
use Rattle.qd_decimal.specs.Reading.{digits_end, point_at, fraction_start, has_minus, start_of, expects, ◌>>=◌}

-- the end of the digits before the point, where the text is a number
unfoldable pub decimal_at : List ℕ → ℕ → Result ℕ DecFault
decimal_at text from =
    point_at text from >>= λ whole.
    expects (digits_end text (fraction_start text whole) == length text) (digits_end text (fraction_start text whole) + 1) >>= λ _.
    Ok whole

pub all_digits : (ds ys : List ℕ) → AreDigits ds → prefix_len is_digit (ds ++ ys) ≡ length ds + prefix_len is_digit ys
all_digits [] ys h = omega arith
all_digits (d ∷ ds) ys h = rw h.0 (omega (arith, all_digits ds ys h.1))

point_prefix : (f : Option (List ℕ)) → prefix_len is_digit (behind_point f) ≡ 0
point_prefix None = refl
point_prefix (Some ds) = refl

pub not_zero : (n : ℕ) → (suc n == 0) ≡ false
not_zero n = grind (arith, nat_tests)

no_minus : (d : ℕ) → is_digit d ≡ true → (d == 45) ≡ false
no_minus d h = grind (arith, nat_tests)

pub minus_of : (negative : Bool) (whole rest : List ℕ) → 0 < length whole → AreDigits whole → has_minus ((sign negative ++ whole) ++ rest) ≡ negative
minus_of true whole rest h k = rw (not_zero (length (whole ++ rest))) refl
minus_of false [] rest h k = absurd (omega arith)
minus_of false (d ∷ whole) rest h k = rw (not_zero (length (whole ++ rest))) (no_minus d k.0)

pub start_is : (negative : Bool) (whole rest : List ℕ) → 0 < length whole → AreDigits whole → start_of ((sign negative ++ whole) ++ rest) ≡ length (sign negative)
start_is negative whole rest h k = rw (minus_of negative whole rest h k) (go negative)
  where
    go : (b : Bool) → cond b 1 0 ≡ length (sign b)
    go true = refl
    go false = refl

whole_end : (negative : Bool) (whole : List ℕ) (f : Option (List ℕ)) → AreDigits whole → digits_end ((sign negative ++ whole) ++ behind_point f) (length (sign negative)) ≡ length (sign negative ++ whole)
unfolding digits_end
whole_end true whole f k = omega (arith, all_digits whole (behind_point f) k, point_prefix f)
whole_end false whole f k = omega (arith, all_digits whole (behind_point f) k, point_prefix f)

at_seam : (xs ys : List ℕ) (y : ℕ) → get_or (xs ++ y ∷ ys) (length xs) 0 ≡ y
at_seam [] ys y = refl
at_seam (x ∷ xs) ys y = at_seam xs ys y

pub append_none : (xs : List ℕ) → xs ++ [] ≡ xs
append_none [] = refl
append_none (x ∷ xs) = ap (λ (t : List ℕ). x ∷ t) (append_none xs)

fraction_end : (xs ds : List ℕ) → AreDigits ds → digits_end (xs ++ 46 ∷ ds) (length xs + 1) ≡ length (xs ++ 46 ∷ ds)
unfolding digits_end
fraction_end xs ds h =
    let e : drop (length xs + 1) (xs ++ 46 ∷ ds) ≡ ds = drop-append-add xs (46 ∷ ds) 1 in
    let p : prefix_len is_digit ds ≡ length ds = rw (← append_none ds) (rw (append_none ds) (ap (prefix_len is_digit) (sym (append_none ds)) ∙ all_digits ds [] h ∙ omega arith)) in
    rw e (omega (arith, p, length-append xs (46 ∷ ds)))

-- no digit stands behind the end
end_of_all : (text : List ℕ) → (digits_end text (length text) == length text) ≡ true
unfolding digits_end
end_of_all text =
    let e : drop (length text) text ≡ [] = drop_of_length-le text (omega arith) in
    rw e (let k : length text + 0 ≡ length text = omega arith in rw k (same (length text)))
  where
    same : (n : ℕ) → (n == n) ≡ true
    same n = grind (arith, nat_tests)

-- the outcomes of reading, by the tests
module _ (text : List ℕ) (from : ℕ) where
  pub without_digit : digits_end text from ≡ from → decimal_at text from ≡ Err (BadByte (from + 1))
  unfolding decimal_at point_at
  without_digit h =
      let t : nat_lt from (digits_end text from) ≡ false = grind (arith, nat_tests) in
      rw t refl

  pub whole_number : (e : ℕ) → digits_end text from ≡ e → from < e → e ≡ length text → decimal_at text from ≡ Ok e
  unfolding decimal_at point_at
  whole_number e d h k =
      let t : nat_lt from e ≡ true = grind (arith, nat_tests) in
      let u : (e == length text) ≡ true = grind (arith, nat_tests) in
      let m : min (e + 1) (length text) ≡ length text = omega arith in
      let v : (digits_end text (length text) == length text) ≡ true = end_of_all text in
      rw (d, t, u, m, v) refl

  pub other_byte : (e : ℕ) → digits_end text from ≡ e → from < e → e < length text → (get_or text e 0 ≡ 46 → ⊥) → decimal_at text from ≡ Err (BadByte (e + 1))
  unfolding decimal_at point_at
  other_byte e d h k b =
      let t : nat_lt from e ≡ true = grind (arith, nat_tests) in
      let u : (e == length text) ≡ false = grind (arith, nat_tests) in
      let v : (get_or text e 0 == 46) ≡ false = grind (arith, nat_tests) in
      rw (d, t, u, v) refl

  pub with_fraction : (e : ℕ) → digits_end text from ≡ e → from < e → e < length text → get_or text e 0 ≡ 46 → digits_end text (e + 1) ≡ length text → decimal_at text from ≡ Ok e
  unfolding decimal_at point_at
  with_fraction e d h k b g =
      let t : nat_lt from e ≡ true = grind (arith, nat_tests) in
      let u : (e == length text) ≡ false = grind (arith, nat_tests) in
      let v : (get_or text e 0 == 46) ≡ true = grind (arith, nat_tests) in
      let m : min (e + 1) (length text) ≡ e + 1 = omega arith in
      let w : (digits_end text (e + 1) == length text) ≡ true = grind (arith, nat_tests) in
      rw (d, t, u, v, m, w) refl

  pub bad_fraction : (e g : ℕ) → digits_end text from ≡ e → from < e → e < length text → get_or text e 0 ≡ 46 → digits_end text (e + 1) ≡ g → g < length text → decimal_at text from ≡ Err (BadByte (g + 1))
  unfolding decimal_at point_at
  bad_fraction e g d h k b r l =
      let t : nat_lt from e ≡ true = grind (arith, nat_tests) in
      let u : (e == length text) ≡ false = grind (arith, nat_tests) in
      let v : (get_or text e 0 == 46) ≡ true = grind (arith, nat_tests) in
      let m : min (e + 1) (length text) ≡ e + 1 = omega arith in
      let w : (g == length text) ≡ false = grind (arith, nat_tests) in
      rw (d, t, u, v, m, r, w) refl

-- Each text of the grammar is accepted.
pub accepted : (parts : Parts) → AreDecimal parts → decimal_at (spelled parts) (start_of (spelled parts)) ≡ Ok (length (sign parts.negative ++ parts.whole))
accepted parts a = rw (start_is parts.negative parts.whole (behind_point parts.fraction) a.some a.whole) (go parts.fraction a.fraction)
  where
    go : (f : Option (List ℕ)) → AreFraction f → decimal_at ((sign parts.negative ++ parts.whole) ++ behind_point f) (length (sign parts.negative)) ≡ Ok (length (sign parts.negative ++ parts.whole))
    go None h =
        let l = length-append (sign parts.negative) parts.whole in
        let s = a.some in
        whole_number _ _ _ (whole_end parts.negative parts.whole None a.whole) (omega arith) (ap (λ (t : List ℕ). length t) (sym (append_none (sign parts.negative ++ parts.whole))))
    go (Some ds) h =
        let l = length-append (sign parts.negative) parts.whole in
        let s = a.some in
        with_fraction _ _ _ (whole_end parts.negative parts.whole (Some ds) a.whole) (omega arith) (omega (arith, length-append (sign parts.negative ++ parts.whole) (46 ∷ ds))) (at_seam (sign parts.negative ++ parts.whole) ds 46) (fraction_end (sign parts.negative ++ parts.whole) ds h)
