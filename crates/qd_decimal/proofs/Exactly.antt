-- What reading a decimal number gives is what the grammar says.
use Rattle.std.proofs.Common.{◌≡◌, ℕ, zero, suc, ◌+◌, ◌-◌, ◌*◌, ◌^◌, ◌<◌, ◌≤◌, min, Bool, true, false, List, [], ◌∷◌, ◌++◌, length, take, drop, slice_range, refl, sym, ◌∙◌, ap, subst, arith, length-drop, length-take, inl, inr}
use Rattle.std.specs.Prelude.{◌==◌, ◌⊎◌, Result, Ok, Err}
use Rattle.std.specs.List.{prefix_len}
use Rattle.std.proofs.lemmas.Bool.Decides.{nat_tests}
use Rattle.std.proofs.lemmas.List.{drop-drop}
use Rattle.std.proofs.lemmas.List.Sums.{prefix_len-le-length}
use Rattle.std.proofs.Math.ListN.{drop_of_length-le}
use lib.IntN.{ℤ}
use Rattle.qd_decimal.specs.Grammar.{Parts, number_of, fraction_digits, scaled, signed}
use Rattle.qd_decimal.specs.Numbers.{fitting, reach, signed_fit}
use Rattle.qd_decimal.specs.Reading.{digits_end, zeros_end, has_minus, start_of, expects, non_empty, point_at, fraction_start, kept_end, fine_enough, rest_at, magnitude_at, dec_of, ◌>>=◌}
use Rattle.qd_decimal.specs.Exact.{past, zeros_past, IsFine, IsTooFineAt, ReadsDecimal}
use Rattle.qd_decimal.specs.declared.fault.DecFault.{DecFault}
use Rattle.qd_decimal.specs.declared.fault.DecFault.TheVariants.{BadByte, TooFine, TooLarge}
use Rattle.qd_decimal.proofs.Shapes.{decimal_at}
use Rattle.qd_decimal.proofs.Places.{lt_or_eq, eq_or_not}
use Rattle.qd_decimal.proofs.Alive.{wrong}
use Rattle.qd_decimal.proofs.OnePass.{dec_empty}
use Rattle.qd_decimal.proofs.Values.{magnitude, fit_ok, fit_large, lt_or_le}
use Rattle.qd_decimal.proofs.Formed.{Splits, good, bad, form_of}

take_whole : (xs : List ℕ) (n : ℕ) → length xs ≤ n → take n xs ≡ xs
take_whole [] zero h = refl
take_whole [] (suc n) h = refl
take_whole (x ∷ xs) zero h = absurd (omega arith)
take_whole (x ∷ xs) (suc n) h = ap (λ (t : List ℕ). x ∷ t) (take_whole xs n (omega arith))

take_kept : (text : List ℕ) (f scale : ℕ) → f ≤ length text → slice_range text f (min (f + scale) (length text)) ≡ take scale (drop f text)
take_kept text f scale h = elim (lt_or_le (length text) (f + scale)) [
  | inl l ↦
      let m : min (f + scale) (length text) - f ≡ length text - f = omega arith in
      ap (λ n. take n (drop f text)) m ∙ take_whole (drop f text) (length text - f) (omega (arith, length-drop f text)) ∙ sym (take_whole (drop f text) scale (omega (arith, length-drop f text)))
  | inr l ↦ let m : min (f + scale) (length text) - f ≡ scale = omega arith in ap (λ n. take n (drop f text)) m
]

drop_kept : (text : List ℕ) (f scale : ℕ) → drop (min (f + scale) (length text)) text ≡ drop scale (drop f text)
drop_kept text f scale = elim (lt_or_le (length text) (f + scale)) [
  | inl l ↦ drop_of_length-le text (omega arith) ∙ sym (drop-drop scale f text ∙ drop_of_length-le text (omega arith))
  | inr l ↦ let m : min (f + scale) (length text) ≡ f + scale = omega arith in ap (λ n. drop n text) m ∙ sym (drop-drop scale f text)
]

-- reading, step by step
abbrev pub kept_of : ℕ → List ℕ → ℕ → ℕ
kept_of scale text w = kept_end scale text (fraction_start text w)

-- the steps behind the point, where the form is wrong and where it is right
module _ (test : ℕ → Bool) (place : ℕ → ℕ) (fine : ℕ → Result (Unit {0}) DecFault) (fit : ℕ → Result ℤ DecFault) where
  bad_step : (t : Bool) (n w : ℕ) (f : Result (Unit {0}) DecFault) (r : Result ℤ DecFault) (e : DecFault) → (expects t n >>= λ _. Ok w) ≡ Err e → ((expects t n >>= λ _. f) >>= λ _. r) ≡ Err e
  bad_step true n w f r e h = cc
  bad_step false n w f r e h = let q : BadByte n ≡ e = cc in ap (λ x. Err x) q

  bad_steps : (p : Result ℕ DecFault) (e : DecFault) → (p >>= λ w. expects (test w) (place w) >>= λ _. Ok w) ≡ Err e → (p >>= λ w. (expects (test w) (place w) >>= λ _. fine w) >>= λ _. fit w) ≡ Err e
  bad_steps (Ok w) e h = bad_step (test w) (place w) w (fine w) (fit w) e h
  bad_steps (Err x) e h = let q : x ≡ e = cc in ap (λ y. Err y) q

  good_step : (t : Bool) (n v w : ℕ) → (expects t n >>= λ _. Ok v) ≡ Ok w → ((expects t n >>= λ _. fine v) >>= λ _. fit v) ≡ (fine w >>= λ _. fit w)
  good_step true n v w h = let q : v ≡ w = cc in ap (λ m. fine m >>= λ _. fit m) q
  good_step false n v w h = absurd (cc)

  good_steps : (p : Result ℕ DecFault) (w : ℕ) → (p >>= λ v. expects (test v) (place v) >>= λ _. Ok v) ≡ Ok w → (p >>= λ v. (expects (test v) (place v) >>= λ _. fine v) >>= λ _. fit v) ≡ (fine w >>= λ _. fit w)
  good_steps (Ok v) w h = good_step (test v) (place v) v w h
  good_steps (Err x) w h = absurd (cc)

some_text : (text : List ℕ) → 0 < length text → non_empty text ≡ Ok tt
some_text text h = let t : (length text == 0) ≡ false = grind (arith, nat_tests) in rw t refl

dec_bad : (scale : ℕ) (text : List ℕ) (e : DecFault) → 0 < length text → decimal_at text (start_of text) ≡ Err e → dec_of scale text ≡ Err e
unfolding dec_of decimal_at rest_at
dec_bad scale text e h w =
    rw (some_text text h) (bad_steps _ _ _ _ (point_at text (start_of text)) e w)

dec_good : (scale : ℕ) (text : List ℕ) (w : ℕ) → 0 < length text → decimal_at text (start_of text) ≡ Ok w → dec_of scale text ≡ (fine_enough text (kept_of scale text w) >>= λ _. signed_fit (has_minus text) (magnitude_at scale text (start_of text) w (fraction_start text w) (kept_of scale text w)))
unfolding dec_of decimal_at rest_at
dec_good scale text w h o =
    rw (some_text text h) (good_steps _ _ _ _ (point_at text (start_of text)) w o)

dec_coarse : (scale : ℕ) (text : List ℕ) (w : ℕ) → 0 < length text → decimal_at text (start_of text) ≡ Ok w → (zeros_end text (kept_of scale text w) ≡ length text → ⊥) → dec_of scale text ≡ Err (TooFine (zeros_end text (kept_of scale text w) + 1))
dec_coarse scale text w h o z =
    let u : (zeros_end text (kept_of scale text w) == length text) ≡ false = grind (arith, nat_tests) in
    dec_good scale text w h o ∙ rw u refl

pub dec_fine : (scale : ℕ) (text : List ℕ) (w : ℕ) → 0 < length text → decimal_at text (start_of text) ≡ Ok w → zeros_end text (kept_of scale text w) ≡ length text → dec_of scale text ≡ signed_fit (has_minus text) (magnitude_at scale text (start_of text) w (fraction_start text w) (kept_of scale text w))
dec_fine scale text w h o z =
    let u : (zeros_end text (kept_of scale text w) == length text) ≡ true = grind (arith, nat_tests) in
    dec_good scale text w h o ∙ rw u refl

not_both : (r : Result ℤ DecFault) (value : ℤ) (fault : DecFault) → r ≡ Ok value → r ≡ Err fault → ⊥
not_both r value fault h k = cc

same_ok : (r : Result ℤ DecFault) (a b : ℤ) → r ≡ Ok a → r ≡ Ok b → a ≡ b
same_ok r a b h k = cc

module _ (scale : ℕ) (text : List ℕ) (w : ℕ) (parts : Parts) (split : Splits text w parts) where
  past_is : past scale parts ≡ drop (kept_of scale text w) text
  past_is = ap (λ (t : List ℕ). drop scale t) split.fraction ∙ sym (drop_kept text (fraction_start text w) scale)

  past_length : length (past scale parts) ≡ length text - kept_of scale text w
  past_length = ap (λ (t : List ℕ). length t) past_is ∙ length-drop (kept_of scale text w) text

  zeros_are : zeros_end text (kept_of scale text w) ≡ kept_of scale text w + zeros_past scale parts
  unfolding zeros_end
  zeros_are = ap (λ (t : List ℕ). kept_of scale text w + prefix_len (λ b. b == 48) t) (sym past_is)

  kept_within : kept_of scale text w ≤ length text
  kept_within = omega arith

  zeros_within : zeros_past scale parts ≤ length (past scale parts)
  zeros_within = prefix_len-le-length (λ b. b == 48) (past scale parts)

  fine : zeros_end text (kept_of scale text w) ≡ length text → IsFine scale parts
  fine z = omega (arith, zeros_are, past_length, kept_within)

  pub fine_end : IsFine scale parts → zeros_end text (kept_of scale text w) ≡ length text
  fine_end z = omega (arith, zeros_are, past_length, kept_within, z)

  coarse : (zeros_end text (kept_of scale text w) ≡ length text → ⊥) → IsTooFineAt scale text parts (zeros_end text (kept_of scale text w) + 1)
  coarse z =
      let s : zeros_past scale parts < length (past scale parts) = elim (lt_or_eq (zeros_past scale parts) (length (past scale parts)) zeros_within) [ inl l ↦ l | inr e ↦ absurd (z (omega (arith, zeros_are, past_length, kept_within))) ] in
      record { some = s; first = omega (arith, zeros_are, past_length, kept_within) }

  kept_is : take scale (fraction_digits parts.fraction) ≡ slice_range text (fraction_start text w) (kept_of scale text w)
  kept_is = ap (λ (t : List ℕ). take scale t) split.fraction ∙ sym (take_kept text (fraction_start text w) scale (omega arith))

  kept_length : length (take scale (fraction_digits parts.fraction)) ≡ kept_of scale text w - fraction_start text w
  kept_length = ap (λ (t : List ℕ). length t) kept_is ∙ length-take (kept_of scale text w - fraction_start text w) (drop (fraction_start text w) text) ∙ omega (arith, length-drop (fraction_start text w) text)

  scaled_is : number_of (slice_range text (start_of text) w ++ slice_range text (fraction_start text w) (kept_of scale text w)) * 10 ^ (scale - (kept_of scale text w - fraction_start text w)) ≡ scaled scale parts
  scaled_is = ap (λ n. number_of (slice_range text (start_of text) w ++ slice_range text (fraction_start text w) (kept_of scale text w)) * 10 ^ (scale - n)) (sym kept_length)
      ∙ ap (λ (t : List ℕ). number_of (slice_range text (start_of text) w ++ t) * 10 ^ (scale - length (take scale (fraction_digits parts.fraction)))) (sym kept_is)
      ∙ ap (λ (t : List ℕ). number_of (t ++ take scale (fraction_digits parts.fraction)) * 10 ^ (scale - length (take scale (fraction_digits parts.fraction)))) (sym split.digits)

  magnitude_is : magnitude_at scale text (start_of text) w (fraction_start text w) (kept_of scale text w) ≡ fitting (scaled scale parts)
  magnitude_is = magnitude (slice_range text (start_of text) w) (slice_range text (fraction_start text w) (kept_of scale text w)) (scale - (kept_of scale text w - fraction_start text w)) ∙ ap fitting scaled_is

  pub fit_is : signed_fit (has_minus text) (magnitude_at scale text (start_of text) w (fraction_start text w) (kept_of scale text w)) ≡ signed_fit parts.negative (fitting (scaled scale parts))
  fit_is = ap (λ m. signed_fit (has_minus text) m) magnitude_is ∙ ap (λ b. signed_fit b (fitting (scaled scale parts))) (sym split.negative)

  good_reads : 0 < length text → decimal_at text (start_of text) ≡ Ok w → ReadsDecimal scale text (dec_of scale text)
  good_reads h o = elim (eq_or_not (zeros_end text (kept_of scale text w)) (length text)) [
    | inl z ↦ elim (lt_or_le (reach parts.negative) (scaled scale parts)) [
      | inl l ↦ subst (λ (r : Result ℤ DecFault). ReadsDecimal scale text r) (sym (dec_fine scale text w h o z ∙ fit_is ∙ fit_large parts.negative (scaled scale parts) l)) (parts, split.has, fine z, l)
      | inr l ↦ subst (λ (r : Result ℤ DecFault). ReadsDecimal scale text r) (sym (dec_fine scale text w h o z ∙ fit_is ∙ fit_ok parts.negative (scaled scale parts) l)) (parts, split.has, fine z, l, refl)
    ]
    | inr z ↦ subst (λ (r : Result ℤ DecFault). ReadsDecimal scale text r) (sym (dec_coarse scale text w h o z)) (parts, split.has, coarse z)
  ]

  -- what an accepted text that is read as a number has
  pub read_is : 0 < length text → decimal_at text (start_of text) ≡ Ok w → (value : ℤ) → dec_of scale text ≡ Ok value → IsFine scale parts × (value ≡ signed parts.negative (scaled scale parts))
  read_is h o value e = elim (eq_or_not (zeros_end text (kept_of scale text w)) (length text)) [
    | inl z ↦ elim (lt_or_le (reach parts.negative) (scaled scale parts)) [
      | inl l ↦ let f : dec_of scale text ≡ Err TooLarge = dec_fine scale text w h o z ∙ fit_is ∙ fit_large parts.negative (scaled scale parts) l in absurd (not_both (dec_of scale text) value TooLarge e f)
      | inr l ↦ let f : dec_of scale text ≡ Ok (signed parts.negative (scaled scale parts)) = dec_fine scale text w h o z ∙ fit_is ∙ fit_ok parts.negative (scaled scale parts) l in (fine z, same_ok (dec_of scale text) value (signed parts.negative (scaled scale parts)) e f)
    ]
    | inr z ↦ absurd (not_both (dec_of scale text) value (TooFine (zeros_end text (kept_of scale text w) + 1)) e (dec_coarse scale text w h o z))
  ]

pub reads : (scale : ℕ) (text : List ℕ) → ReadsDecimal scale text (dec_of scale text)
reads scale text = elim (lt_or_le 0 (length text)) [
  | inl h ↦ elim (form_of text) [
    | good parts split o ↦ good_reads scale text (digits_end text (start_of text)) parts split h o
    | bad place w ↦ subst (λ (r : Result ℤ DecFault). ReadsDecimal scale text r) (sym (dec_bad scale text (BadByte place) h w)) (h, wrong text place w)
  ]
  | inr h ↦ let e : length text ≡ 0 = omega arith in subst (λ (r : Result ℤ DecFault). ReadsDecimal scale text r) (sym (dec_empty scale text e)) e
]
