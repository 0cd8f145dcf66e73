-- What reading in one pass over the digits gives.
use Rattle.std.proofs.Common.{◌≡◌, ℕ, ◌+◌, ◌-◌, ◌*◌, ◌^◌, ◌<◌, ◌≤◌, min, Bool, true, false, cond, List, length, get_or, slice_range, refl, sym, ◌∙◌, ap, arith, inl, inr}
use Rattle.std.specs.Prelude.{◌==◌, ◌||◌, ◌⊎◌, nat_lt, Option, Some, Ok, Err}
use Rattle.std.proofs.lemmas.Bool.Decides.{nat_tests}
use mir.Val.{bool_byte}
use Rattle.qd_decimal.specs.Numbers.{with_digits, times, signed_fit}
use Rattle.qd_decimal.specs.Reading.{digits_end, has_minus, start_of, whole_at, point_at, fraction_start, kept_end, rest_at, magnitude_at, dec_of, ◌>>=◌}
use Rattle.qd_decimal.specs.declared.fault.DecFault.{DecFault}
use Rattle.qd_decimal.specs.declared.fault.DecFault.TheVariants.{Empty, BadByte}
use Rattle.qd_decimal.proofs.Places.{start_within, end_from, end_within, eq_or_not}

-- a run of digits that goes to the end of the text
pub run_end : (text : List ℕ) (from e : ℕ) → from ≤ length text → e ≡ min (digits_end text from) (length text) → e ≡ digits_end text from
run_end text from e h k = let w : digits_end text from ≤ length text = end_within text from h in omega arith

-- digits from a place to the end
module _ (text : List ℕ) (from e : ℕ) (ends : e ≡ digits_end text from) where
  pub whole_none : e ≡ from → whole_at text from ≡ Err (BadByte (e + 1))
  unfolding whole_at
  whole_none h =
      let t : nat_lt from (digits_end text from) ≡ false = grind (arith, nat_tests) in
      rw t (ap (λ n. Err (BadByte (n + 1))) (sym h))

  pub whole_stops : (e ≡ from → ⊥) → (e ≡ length text → ⊥) → whole_at text from ≡ Err (BadByte (e + 1))
  unfolding whole_at
  whole_stops h k =
      let f : from ≤ digits_end text from = end_from text from in
      let t : nat_lt from (digits_end text from) ≡ true = grind (arith, nat_tests) in
      let u : (digits_end text from == length text) ≡ false = grind (arith, nat_tests) in
      rw (t, u) (ap (λ n. Err (BadByte (n + 1))) (sym ends))

  pub whole_good : (e ≡ from → ⊥) → e ≡ length text → whole_at text from ≡ Ok (with_digits (Some 0) (slice_range text from e))
  unfolding whole_at
  whole_good h k =
      let f : from ≤ digits_end text from = end_from text from in
      let t : nat_lt from (digits_end text from) ≡ true = grind (arith, nat_tests) in
      let u : (digits_end text from == length text) ≡ true = grind (arith, nat_tests) in
      rw (t, u) (ap (λ n. Ok (with_digits (Some 0) (slice_range text from n))) (sym k))

-- a decimal number, by the end of the digits before its point
module _ (scale : ℕ) (text : List ℕ) (some : length text ≡ 0 → ⊥) where
  not_empty : (length text == 0) ≡ false
  not_empty = grind (arith, nat_tests)

  module _ (e : ℕ) (ends : digits_end text (start_of text) ≡ e) where
    pub dec_no_digit : e ≡ start_of text → dec_of scale text ≡ Err (BadByte (start_of text + 1))
    unfolding dec_of point_at
    dec_no_digit h =
        let t : nat_lt (start_of text) (digits_end text (start_of text)) ≡ false = grind (arith, nat_tests) in
        rw (t, not_empty) refl

    some_digit : (e ≡ start_of text → ⊥) → nat_lt (start_of text) e ≡ true
    some_digit h = let f : start_of text ≤ digits_end text (start_of text) = end_from text (start_of text) in grind (arith, nat_tests)

    pub dec_no_point : (e ≡ start_of text → ⊥) → e < length text → (get_or text e 0 ≡ 46 → ⊥) → dec_of scale text ≡ Err (BadByte (e + 1))
    unfolding dec_of point_at
    dec_no_point h k b =
        let u : (e == length text) ≡ false = grind (arith, nat_tests) in
        let v : (get_or text e 0 == 46) ≡ false = grind (arith, nat_tests) in
        rw (ends, some_digit h, u, v, not_empty) refl

    dec_rest : (e ≡ start_of text → ⊥) → (e == length text || get_or text e 0 == 46) ≡ true → dec_of scale text ≡ (rest_at text (fraction_start text e) (kept_end scale text (fraction_start text e)) >>= λ _. signed_fit (has_minus text) (magnitude_at scale text (start_of text) e (fraction_start text e) (kept_end scale text (fraction_start text e))))
    unfolding dec_of point_at
    dec_rest h u = rw (ends, some_digit h, u, not_empty) refl

    -- the end of the digits is the end of the text, or a point stands there
    at_point : (e < length text → get_or text e 0 ≡ 46) → e ≤ length text → (e == length text || get_or text e 0 == 46) ≡ true
    at_point h k = elim (eq_or_not e (length text)) [
      | inl l ↦ let t : (e == length text) ≡ true = grind (arith, nat_tests) in rw t refl
      | inr n ↦
          let t : (e == length text) ≡ false = grind (arith, nat_tests) in
          let b : get_or text e 0 ≡ 46 = h (omega arith) in
          let u : (get_or text e 0 == 46) ≡ true = grind (arith, nat_tests) in
          rw (t, u) refl
    ]

    within : e ≤ length text
    within = let w : digits_end text (start_of text) ≤ length text = end_within text (start_of text) (start_within text) in omega arith

    module _ (digit : e ≡ start_of text → ⊥) (point : e < length text → get_or text e 0 ≡ 46) where
      pub dec_rest_bad : (f : DecFault) → rest_at text (fraction_start text e) (kept_end scale text (fraction_start text e)) ≡ Err f → dec_of scale text ≡ Err f
      dec_rest_bad f r = dec_rest digit (at_point point within) ∙ rw r refl

      pub dec_rest_good : rest_at text (fraction_start text e) (kept_end scale text (fraction_start text e)) ≡ Ok tt → dec_of scale text ≡ signed_fit (has_minus text) (magnitude_at scale text (start_of text) e (fraction_start text e) (kept_end scale text (fraction_start text e)))
      dec_rest_good r = dec_rest digit (at_point point within) ∙ rw r refl

pub dec_empty : (scale : ℕ) (text : List ℕ) → length text ≡ 0 → dec_of scale text ≡ Err Empty
unfolding dec_of
dec_empty scale text h = let t : (length text == 0) ≡ true = grind (arith, nat_tests) in rw t refl

pub magnitude_made : (scale : ℕ) (text : List ℕ) (start e fraction kept power : ℕ) (whole part made : Option ℕ) → whole ≡ with_digits (Some 0) (slice_range text start e) → part ≡ with_digits whole (slice_range text fraction kept) → power ≡ 10 ^ (scale - (kept - fraction)) → made ≡ times part power → made ≡ magnitude_at scale text start e fraction kept
magnitude_made scale text start e fraction kept power whole part made p q r s = s ∙ ap (λ v. times v power) (q ∙ ap (λ v. with_digits v (slice_range text fraction kept)) p) ∙ ap (λ n. times (with_digits (with_digits (Some 0) (slice_range text start e)) (slice_range text fraction kept)) n) r

-- one byte for a minus
pub start_byte : (text : List ℕ) (n : ℕ) (b : Bool) → n ≡ bool_byte b → b ≡ has_minus text → n ≡ start_of text
start_byte text n b h k = h ∙ go b ∙ ap (λ c. cond c 1 0) k
  where
    go : (b : Bool) → bool_byte b ≡ cond b 1 0
    go true = refl
    go false = refl
