-- Runs of digits, byte by byte.
use Rattle.std.proofs.Common.{◌≡◌, ℕ, zero, suc, ◌+◌, ◌-◌, ◌*◌, ◌^◌, ◌<◌, ◌≤◌, Bool, true, false, cond, List, [], ◌∷◌, ◌++◌, length, get_or, drop, take, slice_range, refl, sym, ◌∙◌, ap, arith, length-drop}
use Rattle.std.specs.Prelude.{◌==◌, ◌⊎◌, Option, Some, nat_lt, Ok, Err}
use Rattle.std.specs.List.{prefix_len}
use Rattle.std.proofs.lemmas.Bool.Decides.{nat_tests}
use Rattle.std.proofs.lemmas.List.{drop-drop, get_or-drop}
use Rattle.std.proofs.Math.Seq.{take-suc, take-add}
use Rattle.qd_decimal.specs.Grammar.{is_digit}
use Rattle.qd_decimal.specs.Numbers.{with_digit, with_digits}
use Rattle.qd_decimal.specs.Reading.{digits_end, zeros_end, rest_at, ◌>>=◌}
use Rattle.qd_decimal.specs.declared.fault.DecFault.TheVariants.{BadByte, TooFine}

with_digits-append : (v : Option ℕ) (a b : List ℕ) → with_digits v (a ++ b) ≡ with_digits (with_digits v a) b
with_digits-append v [] b = refl
with_digits-append v (d ∷ a) b = with_digits-append (with_digit v d) a b

-- one more digit behind those of a piece
pub digits_more : (number : Option ℕ) (text : List ℕ) (from at : ℕ) → from ≤ at → at < length text → with_digits number (slice_range text from (at + 1)) ≡ with_digit (with_digits number (slice_range text from at)) (get_or text at 0)
digits_more number text from at h k =
    let e : at + 1 - from ≡ suc (at - from) = omega arith in
    let n : from + (at - from) ≡ at = omega arith in
    let q : slice_range text from (at + 1) ≡ slice_range text from at ++ get_or text at 0 ∷ [] = rw e (piece (at - from) from text (omega arith) ∙ ap (λ i. take (at - from) (drop from text) ++ get_or text i 0 ∷ []) n) in
    ap (λ (t : List ℕ). with_digits number t) q ∙ with_digits-append number (slice_range text from at) (get_or text at 0 ∷ [])
  where
    piece : (n from : ℕ) (text : List ℕ) → from + n < length text → take (suc n) (drop from text) ≡ take n (drop from text) ++ get_or text (from + n) 0 ∷ []
    piece n from text h = take-suc (drop from text) n 0 (omega (arith, length-drop from text)) ∙ ap (λ d. take n (drop from text) ++ d ∷ []) (get_or-drop from text n 0)

-- digits in two pieces
pub digits_joined : (number middle : Option ℕ) (text : List ℕ) (from at to : ℕ) → from ≤ at → at ≤ to → with_digits number (slice_range text from at) ≡ middle → with_digits middle (slice_range text at to) ≡ with_digits number (slice_range text from to)
digits_joined number middle text from at to h k e =
    let n : from + (at - from) ≡ at = omega arith in
    let m : (at - from) + (to - at) ≡ to - from = omega arith in
    let d : drop (at - from) (drop from text) ≡ drop at text = drop-drop (at - from) from text ∙ ap (λ i. drop i text) n in
    let s : slice_range text from to ≡ slice_range text from at ++ slice_range text at to =
    ap (λ i. take i (drop from text)) (sym m) ∙ take-add (at - from) (to - at) (drop from text) ∙ ap (λ (t : List ℕ). slice_range text from at ++ take (to - at) t) d in
    ap (λ v. with_digits v (slice_range text at to)) (sym e)
    ∙ sym (with_digits-append number (slice_range text from at) (slice_range text at to))
    ∙ ap (λ (t : List ℕ). with_digits number t) (sym s)

-- a number with room for any digit takes one more
pub digit_fits : (value digit : ℕ) → value ≤ 1844674407370955160 → is_digit digit ≡ true → with_digit (Some value) digit ≡ Some (value * 10 + (digit - 48))
digit_fits value digit h k =
    let d : digit - 48 ≤ 9 = digit_most digit k in
    let t : nat_lt (value * 10 + (digit - 48)) (2 ^ 64) ≡ true = fit (value * 10 + (digit - 48)) (omega arith) in
    rw t refl
  where
    digit_most : (d : ℕ) → is_digit d ≡ true → d - 48 ≤ 9
    digit_most d h = grind (arith, nat_tests)

    fit : (n : ℕ) → n < 2 ^ 64 → nat_lt n (2 ^ 64) ≡ true
    fit n h = grind (arith, nat_tests)

-- behind some of the first that pass, the others follow
prefix_len-drop : (p : ℕ → Bool) (k : ℕ) (xs : List ℕ) → k ≤ prefix_len p xs → k + prefix_len p (drop k xs) ≡ prefix_len p xs
prefix_len-drop p zero xs h = omega arith
prefix_len-drop p (suc k) [] h = absurd (omega arith)
prefix_len-drop p (suc k) (x ∷ xs) h =
    let go : (t : Bool) → suc k ≤ cond t (1 + prefix_len p xs) 0 → suc k + prefix_len p (drop k xs) ≡ cond t (1 + prefix_len p xs) 0 = elim [
      | true ↦ λ l. omega (arith, prefix_len-drop p k xs (omega arith))
      | false ↦ λ l. absurd (omega arith)
    ] in
    go (p x) h

-- digits end in one place, whichever of them is looked at first
pub digits_on : (text : List ℕ) (from m : ℕ) → from ≤ m → m ≤ digits_end text from → digits_end text m ≡ digits_end text from
unfolding digits_end
digits_on text from m h k =
    let n : from + (m - from) ≡ m = omega arith in
    let e : drop (m - from) (drop from text) ≡ drop m text = drop-drop (m - from) from text ∙ ap (λ i. drop i text) n in
    let q : (m - from) + prefix_len is_digit (drop (m - from) (drop from text)) ≡ prefix_len is_digit (drop from text) = prefix_len-drop is_digit (m - from) (drop from text) (omega arith) in
    let r : (m - from) + prefix_len is_digit (drop m text) ≡ prefix_len is_digit (drop from text) = rw e at q in
    omega arith

zeros_are_digits : (xs : List ℕ) → prefix_len (λ b. b == 48) xs ≤ prefix_len is_digit xs
zeros_are_digits [] = omega arith
zeros_are_digits (x ∷ xs) =
    let go : (t : Bool) → (x == 48) ≡ t → cond t (1 + prefix_len (λ b. b == 48) xs) 0 ≤ cond (is_digit x) (1 + prefix_len is_digit xs) 0 = elim [
      | true ↦ λ e. rw (zero_digit x e) (omega (arith, zeros_are_digits xs))
      | false ↦ λ e. omega arith
    ] in
    go (x == 48) refl
  where
    zero_digit : (x : ℕ) → (x == 48) ≡ true → is_digit x ≡ true
    zero_digit x e = grind (arith, nat_tests)

zeros_before : (text : List ℕ) (from : ℕ) → zeros_end text from ≤ digits_end text from
unfolding zeros_end digits_end
zeros_before text from = omega (arith, zeros_are_digits (drop from text))

pub zeros_from : (text : List ℕ) (from : ℕ) → from ≤ zeros_end text from
unfolding zeros_end
zeros_from text from = omega arith

-- the digits go on behind the zeros past the scale
pub digits_past : (text : List ℕ) (fraction kept : ℕ) → fraction ≤ kept → kept ≤ digits_end text fraction → digits_end text (zeros_end text kept) ≡ digits_end text fraction
digits_past text fraction kept h k =
    let a : digits_end text kept ≡ digits_end text fraction = digits_on text fraction kept h k in
    digits_on text kept (zeros_end text kept) (zeros_from text kept) (zeros_before text kept) ∙ a

pub zeros_within : (text : List ℕ) (fraction kept : ℕ) → fraction ≤ kept → kept ≤ digits_end text fraction → zeros_end text kept ≤ digits_end text fraction
zeros_within text fraction kept h k =
    let a : digits_end text kept ≡ digits_end text fraction = digits_on text fraction kept h k in
    omega (arith, zeros_before text kept)

-- what the rest of a number is, by where its digits end
module _ (text : List ℕ) (fraction kept : ℕ) where
  pub rest_bad : (e : ℕ) → digits_end text fraction ≡ e → e < length text → rest_at text fraction kept ≡ Err (BadByte (e + 1))
  unfolding rest_at
  rest_bad e d h =
      let t : (e == length text) ≡ false = grind (arith, nat_tests) in
      rw (d, t) refl

  pub rest_fine : digits_end text fraction ≡ length text → zeros_end text kept ≡ length text → rest_at text fraction kept ≡ Ok tt
  unfolding rest_at
  rest_fine d z =
      let t : (length text == length text) ≡ true = grind (arith, nat_tests) in
      rw (d, z, t) refl

  pub rest_coarse : (z : ℕ) → digits_end text fraction ≡ length text → zeros_end text kept ≡ z → (z ≡ length text → ⊥) → rest_at text fraction kept ≡ Err (TooFine (z + 1))
  unfolding rest_at
  rest_coarse z d e n =
      let t : (length text == length text) ≡ true = grind (arith, nat_tests) in
      let u : (z == length text) ≡ false = grind (arith, nat_tests) in
      rw (d, t, e, u) refl
