-- What reading a decimal number gives, by the grammar.
use Rattle.std.proofs.Common.{◌≡◌, ℕ, zero, suc, ◌+◌, ◌-◌, ◌*◌, ◌^◌, ◌<◌, ◌≤◌, min, Bool, List, [], ◌∷◌, ◌++◌, length, get_or, take, drop, slice_range, refl, sym, ◌∙◌, ap, subst, arith, length-drop, inl, inr}
use Rattle.std.specs.Prelude.{◌==◌, ◌⊎◌, Some, None, Ok, Err}
use Rattle.std.specs.List.{prefix_len}
use Rattle.std.proofs.lemmas.List.{drop_more, take-append-drop}
use Rattle.std.proofs.lemmas.List.Sums.{prefix_len-le-length}
use Rattle.std.proofs.Math.ListN.{drop_of_length-le}
use Rattle.qd_decimal.specs.Grammar.{AreDigits, Parts, sign, fraction_digits}
use Rattle.qd_decimal.specs.Reading.{digits_end, has_minus, start_of, fraction_start, ◌>>=◌}
use Rattle.qd_decimal.specs.Exact.{HasParts}
use Rattle.qd_decimal.specs.declared.fault.DecFault.TheVariants.{BadByte}
use Rattle.qd_decimal.proofs.Shapes.{decimal_at, append_none, without_digit, whole_number, other_byte, with_fraction, bad_fraction}
use Rattle.qd_decimal.proofs.Places.{lt_or_eq, eq_or_not, end_from, end_within, start_within}
use Rattle.qd_decimal.proofs.Alive.{sign_text, taken, digits_taken, prefix_of_end, length_taken, wrong}

-- what an accepted text has: its parts, by the end of the digits before the point
pub record Splits (text : List ℕ) (whole : ℕ) (parts : Parts) : Type 0 where
  pub has : HasParts text parts
  pub negative : parts.negative ≡ has_minus text
  pub digits : parts.whole ≡ slice_range text (start_of text) whole
  pub fraction : fraction_digits parts.fraction ≡ drop (fraction_start text whole) text

pub take_all : (xs : List ℕ) (n : ℕ) → length xs ≤ n → take n xs ≡ xs
take_all [] zero h = refl
take_all [] (suc n) h = refl
take_all (x ∷ xs) zero h = absurd (omega arith)
take_all (x ∷ xs) (suc n) h = ap (λ (t : List ℕ). x ∷ t) (take_all xs n (omega arith))

-- the text up to the end of its digits
front_text : (text : List ℕ) → take (digits_end text (start_of text)) text ≡ sign (has_minus text) ++ slice_range text (start_of text) (digits_end text (start_of text))
front_text text = taken text (start_of text) (digits_end text (start_of text)) (end_from text (start_of text)) ∙ ap (λ (t : List ℕ). t ++ slice_range text (start_of text) (digits_end text (start_of text))) (sign_text text)

whole_digits : (text : List ℕ) → AreDigits (slice_range text (start_of text) (digits_end text (start_of text)))
whole_digits text = digits_taken _ _ (prefix_of_end text (start_of text) (digits_end text (start_of text)) (end_from text (start_of text)) (omega arith))

whole_some : (text : List ℕ) → start_of text < digits_end text (start_of text) → 0 < length (slice_range text (start_of text) (digits_end text (start_of text)))
whole_some text h = omega (arith, length_taken (drop (start_of text) text) (digits_end text (start_of text) - start_of text) (prefix_of_end text (start_of text) (digits_end text (start_of text)) (omega arith) (omega arith)))

split_whole : (text : List ℕ) → start_of text < digits_end text (start_of text) → digits_end text (start_of text) ≡ length text → (parts : Parts) × Splits text (digits_end text (start_of text)) parts
split_whole text h k = (
  record { negative = has_minus text; whole = slice_range text (start_of text) (digits_end text (start_of text)); fraction = None },
  record {
    has = record { decimal = record { some = whole_some text h; whole = whole_digits text; fraction = tt }; spells = sym (take_all text (digits_end text (start_of text)) (omega arith)) ∙ front_text text ∙ sym (append_none _) };
    negative = refl;
    digits = refl;
    fraction = sym (drop_of_length-le text (omega arith));
  },
)

prefix_all : (p : ℕ → Bool) (xs : List ℕ) → length xs ≤ prefix_len p xs → length xs ≡ prefix_len p xs
prefix_all p xs h = omega (arith, prefix_len-le-length p xs)

pub fraction_are : (text : List ℕ) (from : ℕ) → from ≤ length text → digits_end text from ≡ length text → AreDigits (drop from text)
fraction_are text from h k = subst (λ (xs : List ℕ). AreDigits xs) (take_all (drop from text) (length text - from) (omega (arith, length-drop from text))) (digits_taken (length text - from) (drop from text) (prefix_of_end text from (length text) h (omega arith)))

split_fraction : (text : List ℕ) → start_of text < digits_end text (start_of text) → digits_end text (start_of text) < length text → get_or text (digits_end text (start_of text)) 0 ≡ 46 → digits_end text (digits_end text (start_of text) + 1) ≡ length text → (parts : Parts) × Splits text (digits_end text (start_of text)) parts
split_fraction text h k b g =
    let m : min (digits_end text (start_of text) + 1) (length text) ≡ digits_end text (start_of text) + 1 = omega arith in (
      record { negative = has_minus text; whole = slice_range text (start_of text) (digits_end text (start_of text)); fraction = Some (drop (digits_end text (start_of text) + 1) text) },
      record {
        has = record { decimal = record { some = whole_some text h; whole = whole_digits text; fraction = fraction_are text (digits_end text (start_of text) + 1) (omega arith) g }; spells = spell text (digits_end text (start_of text)) _ k b (front_text text) };
        negative = refl;
        digits = refl;
        fraction = ap (λ n. drop n text) (sym m);
      },
    )
  where
    spell : (xs : List ℕ) (e : ℕ) (front : List ℕ) → e < length xs → get_or xs e 0 ≡ 46 → take e xs ≡ front → xs ≡ front ++ 46 ∷ drop (e + 1) xs
    spell xs e front l p q = sym (take-append-drop e xs) ∙ ap (λ (t : List ℕ). t ++ drop e xs) q ∙ ap (λ (t : List ℕ). front ++ t) (drop_more xs e 0 l ∙ ap (λ (y : ℕ). y ∷ drop (e + 1) xs) p)

-- Reading the form gives the end of an accepted text's digits, or a wrong byte.
pub data Form (text : List ℕ) : Type 0 where
  good : (parts : Parts) → Splits text (digits_end text (start_of text)) parts → decimal_at text (start_of text) ≡ Ok (digits_end text (start_of text)) → Form text
  bad : (place : ℕ) → decimal_at text (start_of text) ≡ Err (BadByte place) → Form text

pub form_of : (text : List ℕ) → Form text
form_of text =
    elim (lt_or_eq (start_of text) (digits_end text (start_of text)) (end_from text (start_of text))) [
      | inl l ↦ elim (lt_or_eq (digits_end text (start_of text)) (length text) (end_within text (start_of text) (start_within text))) [
        | inl m ↦ elim (eq_or_not (get_or text (digits_end text (start_of text)) 0) 46) [
          | inl b ↦ elim (lt_or_eq (digits_end text (digits_end text (start_of text) + 1)) (length text) (end_within text (digits_end text (start_of text) + 1) (omega arith))) [
            | inl g ↦ bad _ (bad_fraction text (start_of text) _ _ refl l m b refl g)
            | inr g ↦ good (split_fraction text l m b g).0 (split_fraction text l m b g).1 (with_fraction text (start_of text) _ refl l m b g)
          ]
          | inr b ↦ bad _ (other_byte text (start_of text) _ refl l m b)
        ]
        | inr m ↦ good (split_whole text l m).0 (split_whole text l m).1 (whole_number text (start_of text) _ refl l m)
      ]
      | inr l ↦ bad _ (without_digit text (start_of text) (sym l))
    ]
