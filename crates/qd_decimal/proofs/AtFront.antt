-- A number at the front of a text, up to a TAB or to the end, is what that front is read as.
use Rattle.std.proofs.Common.{◌≡◌, ℕ, zero, suc, ◌+◌, ◌-◌, ◌*◌, ◌^◌, ◌<◌, ◌≤◌, Bool, true, false, List, [], ◌∷◌, ◌++◌, length, get_or, take, drop, slice_range, refl, sym, ◌∙◌, ap, subst, arith, length-take, inl, inr}
use Rattle.std.specs.Prelude.{◌==◌, ◌||◌, ◌⊎◌, not, nat_lt, Option, Some, None, Result}
use Rattle.std.specs.List.{prefix_len, AllByRecursion}
use Rattle.std.proofs.lemmas.Bool.Decides.{nat_tests}
use Rattle.std.proofs.lemmas.List.{drop_more, take-append-drop}
use Rattle.std.proofs.Math.ListN.{drop_of_length-le}
use mir.Val.{bool_byte}
use Rattle.qd_decimal.specs.Grammar.{is_digit, AreDigits, Parts, sign, spelled, number_of, fraction_digits, scaled}
use Rattle.qd_decimal.specs.Numbers.{fitting, with_digits, times, signed_fit}
use Rattle.qd_decimal.specs.Reading.{digits_end, has_minus, start_of, dec_of, int_of}
use Rattle.qd_decimal.specs.Exact.{IsFine}
use lib.IntN.{ℤ}
use Rattle.qd_decimal.specs.Fronts.{ends_part, part_len, with_len, front_read}
use Rattle.qd_decimal.specs.declared.fault.DecFault.{DecFault}
use Rattle.qd_decimal.specs.declared.fronts.Front.{Front}
use Rattle.qd_decimal.proofs.Shapes.{append_none}
use Rattle.qd_decimal.proofs.Alive.{digits_taken, sign_text, taken, prefix_of_end, length_taken}
use Rattle.qd_decimal.proofs.OnePass.{start_byte}
use Rattle.qd_decimal.proofs.Formed.{take_all}
use Rattle.qd_decimal.proofs.Values.{fits, sum_digits, magnitude}
use Rattle.qd_decimal.proofs.Again.{read_fit}
use Rattle.qd_decimal.proofs.WholesAgain.{int_fit}

abbrev pub is_inside : ℕ → Bool
is_inside b = not (b == 9)

abbrev pub AreInside : List ℕ → Type 0
AreInside = AllByRecursion (λ b. is_inside b ≡ true)

digit_inside : (b : ℕ) → is_digit b ≡ true → is_inside b ≡ true
digit_inside b h = grind (arith, nat_tests)

digits_inside : (ds : List ℕ) → AreDigits ds → AreInside ds
digits_inside [] h = tt
digits_inside (d ∷ ds) h = (digit_inside d h.0, digits_inside ds h.1)

inside_then : (xs ys : List ℕ) → AreInside xs → AreInside ys → AreInside (xs ++ ys)
inside_then [] ys h k = k
inside_then (x ∷ xs) ys h k = (h.0, inside_then xs ys h.1 k)

sign_inside : (b : Bool) → AreInside (sign b)
sign_inside true = (refl, tt)
sign_inside false = tt

all_inside : (xs ys : List ℕ) → AreInside xs → prefix_len is_inside (xs ++ ys) ≡ length xs + prefix_len is_inside ys
all_inside [] ys h = omega arith
all_inside (x ∷ xs) ys h = rw h.0 (omega (arith, all_inside xs ys h.1))

-- nothing of a part is left where it ends
none_left : (text : List ℕ) (at : ℕ) → at ≤ length text → ends_part text at ≡ true → prefix_len is_inside (drop at text) ≡ 0
none_left text at h e = elim (last (at == length text) (get_or text at 0 == 9) e) [
  | inl l ↦ let n : at ≡ length text = grind (arith, nat_tests) in let d : drop at text ≡ [] = drop_of_length-le text (omega arith) in rw d refl
  | inr r ↦ elim (lt_or_le at (length text)) [
    | inl l ↦ let b : get_or text at 0 ≡ 9 = grind (arith, nat_tests) in let d : drop at text ≡ 9 ∷ drop (at + 1) text = drop_more text at 0 l ∙ ap (λ (x : ℕ). x ∷ drop (at + 1) text) b in rw d refl
    | inr l ↦ let d : drop at text ≡ [] = drop_of_length-le text l in rw d refl
  ]
]
  where
    last : (a b : Bool) → (a || b) ≡ true → (a ≡ true) ⊎ (b ≡ true)
    last true b e = inl refl
    last false b e = inr e

    lt_or_le : (a b : ℕ) → (a < b) ⊎ (b ≤ a)
    lt_or_le a b = go (nat_lt a b) refl
      where
        go : (t : Bool) → nat_lt a b ≡ t → (a < b) ⊎ (b ≤ a)
        go true e = inl (grind (arith, nat_tests))
        go false e = inr (grind (arith, nat_tests))

-- A part ends where bytes inside of it are followed by a TAB, or by nothing.
pub part_ends : (text front : List ℕ) (at : ℕ) → at ≤ length text → take at text ≡ front → AreInside front → ends_part text at ≡ true → at ≡ prefix_len is_inside text
part_ends text front at h e i k =
    let n : length front ≡ at = ap (λ (t : List ℕ). length t) (sym e) ∙ length-take at text ∙ omega arith in
    let t : text ≡ front ++ drop at text = sym (take-append-drop at text) ∙ ap (λ (x : List ℕ). x ++ drop at text) e in
    let p : prefix_len is_inside text ≡ length front + prefix_len is_inside (drop at text) = ap (λ (x : List ℕ). prefix_len is_inside x) t ∙ all_inside front (drop at text) i in
    omega (arith, none_left text at h k)

-- what the front of a text is read as, and how far it goes
pub record IsFront (scale : ℕ) (text : List ℕ) (at : ℕ) (number : Option ℕ) : Type 0 where
  pub ends : at ≡ prefix_len (λ b. not (b == 9)) text
  pub reads : dec_of scale (take at text) ≡ signed_fit (has_minus text) number

pub record IsWholeFront (text : List ℕ) (at : ℕ) (number : Option ℕ) : Type 0 where
  pub ends : at ≡ prefix_len (λ b. not (b == 9)) text
  pub reads : int_of (take at text) ≡ signed_fit (has_minus text) number

module _ (text : List ℕ) (w n : ℕ) (some : start_of text < w) (digits : w ≤ digits_end text (start_of text)) (within : w ≤ length text) (number : with_digits (Some 0) (slice_range text (start_of text) w) ≡ Some n) where
  abbrev whole : List ℕ
  whole = slice_range text (start_of text) w

  prefix : w - start_of text ≤ prefix_len is_digit (drop (start_of text) text)
  prefix = prefix_of_end text (start_of text) w (omega arith) digits

  whole_digits : AreDigits whole
  whole_digits = digits_taken (w - start_of text) (drop (start_of text) text) prefix

  whole_some : 0 < length whole
  whole_some = let l : length whole ≡ w - start_of text = length_taken (drop (start_of text) text) (w - start_of text) prefix in omega arith

  front : take w text ≡ sign (has_minus text) ++ whole
  front = taken text (start_of text) w (omega arith) ∙ ap (λ (t : List ℕ). t ++ whole) (sign_text text)

  front_inside : AreInside (sign (has_minus text) ++ whole)
  front_inside = inside_then (sign (has_minus text)) whole (sign_inside (has_minus text)) (digits_inside whole whole_digits)

  abbrev whole_parts : Parts
  whole_parts = record { negative = has_minus text; whole = whole; fraction = None }

  pub whole_front : (scale : ℕ) → ends_part text w ≡ true → IsFront scale text w (times (Some n) (10 ^ scale))
  whole_front scale e = record {
    ends = part_ends text (sign (has_minus text) ++ whole) w within front front_inside e;
    reads =
        ap (λ (t : List ℕ). dec_of scale t) (front ∙ sym (append_none (sign (has_minus text) ++ whole)))
        ∙ read_fit scale whole_parts (record { some = whole_some; whole = whole_digits; fraction = tt }) (no_past scale)
        ∙ ap (λ v. signed_fit (has_minus text) v) (sym (sum scale));
  }
    where
      none_taken : (k : ℕ) → take k (fraction_digits None) ≡ []
      none_taken zero = refl
      none_taken (suc k) = refl

      none_dropped : (k : ℕ) → drop k (fraction_digits None) ≡ []
      none_dropped zero = refl
      none_dropped (suc k) = refl

      no_past : (k : ℕ) → IsFine k whole_parts
      no_past k = subst (λ (t : List ℕ). prefix_len (λ b. b == 48) t ≡ length t) (sym (none_dropped k)) refl

      less : (k : ℕ) → k ≡ k - 0
      less k = omega arith

      sum : (k : ℕ) → times (Some n) (10 ^ k) ≡ fitting (scaled k whole_parts)
      sum k = ap (λ v. times v (10 ^ k)) (sym number) ∙ magnitude whole [] k ∙ ap (λ i. fitting (number_of (whole ++ []) * 10 ^ i)) (less k) ∙ ap (λ (t : List ℕ). fitting (number_of (whole ++ t) * 10 ^ (k - length t))) (sym (none_taken k))

  pub int_front : ends_part text w ≡ true → IsWholeFront text w (Some n)
  int_front e = record {
    ends = part_ends text (sign (has_minus text) ++ whole) w within front front_inside e;
    reads =
        ap (λ (t : List ℕ). int_of t) front
        ∙ int_fit (has_minus text) whole (whole_some, whole_digits)
        ∙ ap (λ v. signed_fit (has_minus text) v) (sym sum ∙ number);
  }
    where
      sum : with_digits (Some 0) whole ≡ fitting (number_of whole)
      sum = sum_digits 0 whole ∙ ap fitting (omega arith)

  module _ (scale p m : ℕ) (point : get_or text w 0 ≡ 46) (more : w < length text) (order : w + 1 ≤ p) (kept : p ≤ w + 1 + scale) (inside : p ≤ length text) (behind : p ≤ digits_end text (w + 1)) (sum : with_digits (Some n) (slice_range text (w + 1) p) ≡ Some m) where
    abbrev part : List ℕ
    part = slice_range text (w + 1) p

    part_prefix : p - (w + 1) ≤ prefix_len is_digit (drop (w + 1) text)
    part_prefix = prefix_of_end text (w + 1) p order behind

    part_digits : AreDigits part
    part_digits = digits_taken (p - (w + 1)) (drop (w + 1) text) part_prefix

    part_length : length part ≡ p - (w + 1)
    part_length = length_taken (drop (w + 1) text) (p - (w + 1)) part_prefix

    abbrev parts : Parts
    parts = record { negative = has_minus text; whole = whole; fraction = Some part }

    point_then : take (p - w) (drop w text) ≡ 46 ∷ part
    point_then = let e : p - w ≡ suc (p - (w + 1)) = omega arith in let d : drop w text ≡ 46 ∷ drop (w + 1) text = drop_more text w 0 more ∙ ap (λ (x : ℕ). x ∷ drop (w + 1) text) point in rw (e, d) refl

    text_is : take p text ≡ spelled parts
    text_is = taken text w p (omega arith) ∙ ap (λ (t : List ℕ). take w text ++ t) point_then ∙ ap (λ (t : List ℕ). t ++ 46 ∷ part) front

    fine : IsFine scale parts
    fine = let d : drop scale part ≡ [] = drop_of_length-le part (omega (arith, part_length)) in subst (λ (t : List ℕ). prefix_len (λ b. b == 48) t ≡ length t) (sym d) refl

    value : times (Some m) (10 ^ (scale - (p - (w + 1)))) ≡ fitting (scaled scale parts)
    value =
        let t : take scale part ≡ part = take_all part scale (omega (arith, part_length)) in
        let l : length part ≡ p - (w + 1) = part_length in
        ap (λ v. times v (10 ^ (scale - (p - (w + 1))))) (sym (ap (λ v. with_digits v part) number ∙ sum))
        ∙ magnitude whole part (scale - (p - (w + 1)))
        ∙ ap (λ i. fitting (number_of (whole ++ part) * 10 ^ (scale - i))) (sym l)
        ∙ ap (λ (x : List ℕ). fitting (number_of (whole ++ x) * 10 ^ (scale - length x))) (sym t)

    pub fraction_front : ends_part text p ≡ true → IsFront scale text p (times (Some m) (10 ^ (scale - (p - (w + 1)))))
    fraction_front e = record {
      ends = part_ends text (spelled parts) p inside text_is (inside_then (sign (has_minus text) ++ whole) (46 ∷ part) front_inside (refl, digits_inside part part_digits)) e;
      reads =
          ap (λ (t : List ℕ). dec_of scale t) text_is
          ∙ read_fit scale parts (record { some = whole_some; whole = whole_digits; fraction = part_digits }) fine
          ∙ ap (λ v. signed_fit (has_minus text) v) (sym value);
    }

-- what a front is read as, with its length
told : (read : List ℕ → Result ℤ DecFault) (text : List ℕ) (at : ℕ) (number : Result ℤ DecFault) (answer : Result Front DecFault) → answer ≡ with_len at number → at ≡ part_len text → read (take at text) ≡ number → answer ≡ front_read read text
told read text at number answer h e r = h ∙ ap (λ v. with_len at v) (sym r) ∙ ap (λ n. with_len n (read (take n text))) e

-- no zero is left out behind a whole number
pub times_one : (n : ℕ) → n < 2 ^ 64 → times (Some n) (10 ^ 0) ≡ Some n
times_one n h = let e : n * 1 ≡ n = omega arith in rw e (fits n h)

goes_on : (text : List ℕ) (w : ℕ) → w ≤ length text → false ≡ ends_part text w → w < length text
goes_on text w h e = go (w == length text) refl e
  where
    go : (t : Bool) → (w == length text) ≡ t → false ≡ (t || (get_or text w 0 == 9)) → w < length text
    go true q e = absurd (cc)
    go false q e = grind (arith, nat_tests)

-- what the code found of the front of a text, and what it tells
module _ (text : List ℕ) (start w n : ℕ) (negative : Bool) (answer : Result Front DecFault) (byte : start ≡ bool_byte negative) (minus : negative ≡ has_minus text) (some : w ≡ start → ⊥) (order : start ≤ w) (within : w ≤ length text) (digits : w ≤ digits_end text start) (number : with_digits (Some 0) (slice_range text start w) ≡ Some n) where
  starts : start ≡ start_of text
  starts = start_byte text start negative byte minus

  some_here : start_of text < w
  some_here = omega (arith, starts)

  digits_here : w ≤ digits_end text (start_of text)
  digits_here = rw starts at digits

  number_here : with_digits (Some 0) (slice_range text (start_of text) w) ≡ Some n
  number_here = rw starts at number

  pub whole_told : (scale : ℕ) → true ≡ ends_part text w → answer ≡ with_len w (signed_fit negative (times (Some n) (10 ^ scale))) → answer ≡ front_read (dec_of scale) text
  whole_told scale e h =
      let f = whole_front text w n some_here digits_here within number_here scale (sym e) in
      told (dec_of scale) text w (signed_fit negative (times (Some n) (10 ^ scale))) answer h f.ends (f.reads ∙ ap (λ b. signed_fit b (times (Some n) (10 ^ scale))) (sym minus))

  pub int_told : n < 2 ^ 64 → true ≡ ends_part text w → answer ≡ with_len w (signed_fit negative (times (Some n) (10 ^ 0))) → answer ≡ front_read int_of text
  int_told l e h =
      let f = int_front text w n some_here digits_here within number_here (sym e) in
      told int_of text w (signed_fit negative (times (Some n) (10 ^ 0))) answer h f.ends (f.reads ∙ ap (λ b. signed_fit b (Some n)) (sym minus) ∙ ap (λ v. signed_fit negative v) (sym (times_one n l)))

  pub fraction_told : (scale p m kept missing : ℕ) → false ≡ ends_part text w → get_or text w 0 ≡ 46 → w + 1 ≤ p → p ≤ kept → kept ≤ w + 1 + scale → kept ≤ length text → p ≤ digits_end text (w + 1) → with_digits (Some n) (slice_range text (w + 1) p) ≡ Some m → missing ≡ scale - (p - (w + 1)) → true ≡ ends_part text p → answer ≡ with_len p (signed_fit negative (times (Some m) (10 ^ missing))) → answer ≡ front_read (dec_of scale) text
  fraction_told scale p m kept missing b point o l q i d s g e h =
      let more : w < length text = goes_on text w within b in
      let f = fraction_front text w n some_here digits_here within number_here scale p m point more o (omega arith) (omega arith) d s (sym e) in
      told (dec_of scale) text p (signed_fit negative (times (Some m) (10 ^ missing))) answer h f.ends (f.reads ∙ ap (λ b. signed_fit b (times (Some m) (10 ^ (scale - (p - (w + 1)))))) (sym minus) ∙ ap (λ i. signed_fit negative (times (Some m) (10 ^ i))) (sym g))
