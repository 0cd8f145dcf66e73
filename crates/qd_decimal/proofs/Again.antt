-- A number's canonical text is read as the number.
use Rattle.std.proofs.Common.{◌≡◌, ℕ, zero, suc, ◌+◌, ◌-◌, ◌*◌, ◌/◌, ◌%◌, ◌^◌, ◌<◌, ◌≤◌, min, Bool, true, false, cond, List, [], ◌∷◌, ◌++◌, length, take, drop, slice_range, refl, sym, ◌∙◌, ap, arith, length-append, append_assoc}
use Rattle.std.specs.Prelude.{◌==◌, ◌⊎◌, decimal, Option, Some, None, Ok}
use Rattle.std.proofs.lemmas.Bool.Decides.{nat_tests}
use Rattle.std.proofs.lemmas.Fmt.{decimal_by_steps}
use Rattle.std.proofs.lemmas.Nat.{pow-add}
use Rattle.std.proofs.lemmas.List.{take_all}
use Rattle.std.proofs.Math.Seq.{drop-append-add, take-append_seam}
use Rattle.std.proofs.Math.ListN.{drop_of_length-le}
use Rattle.std.proofs.Math.Nat.{one-le-pow}
use lib.IntN.{ℤ, pos, negsuc}
use Rattle.qd_decimal.specs.Grammar.{is_digit, AreDigits, Parts, sign, behind_point, spelled, AreFraction, AreDecimal, number_of, fraction_digits, scaled, signed}
use Rattle.qd_decimal.specs.Numbers.{fitting, reach, signed_fit}
use Rattle.qd_decimal.specs.Reading.{dec_of}
use Rattle.qd_decimal.specs.Exact.{past, IsFine}
use Rattle.qd_decimal.specs.Texts.{fraction_text, point_text, magnitude_text, dec_text, distance, is_negative}
use Rattle.qd_decimal.proofs.Shapes.{accepted, minus_of, start_is}
use Rattle.qd_decimal.proofs.Values.{fit_ok}
use Rattle.qd_decimal.proofs.Formed.{Splits}
use Rattle.qd_decimal.proofs.Exactly.{fine_end, fit_is, dec_fine, read_is}

pub number_append : (a b : List ℕ) → number_of (a ++ b) ≡ number_of a * 10 ^ length b + number_of b
number_append [] b = omega arith
number_append (d ∷ a) b =
    let l : length (a ++ b) ≡ length a + length b = length-append a b in
    let p : 10 ^ length (a ++ b) ≡ 10 ^ length a * 10 ^ length b = ap (λ n. 10 ^ n) l ∙ pow_sum (length a) (length b) in
    let q : number_of (a ++ b) ≡ number_of a * 10 ^ length b + number_of b = number_append a b in
    rw (p, q) (spread (d - 48) (10 ^ length a) (10 ^ length b) (number_of a) (number_of b))
  where
    spread : (d p q n m : ℕ) → d * (p * q) + (n * q + m) ≡ (d * p + n) * q + m
    spread d p q n m = omega arith

    pow_sum : (n m : ℕ) → 10 ^ (n + m) ≡ 10 ^ n * 10 ^ m
    pow_sum n m = pow-add 10 n m

digit_is : (d : ℕ) → d < 10 → is_digit (48 + d) ≡ true
digit_is d h = grind (arith, nat_tests)

digits_then : (xs ys : List ℕ) → AreDigits xs → AreDigits ys → AreDigits (xs ++ ys)
digits_then [] ys h k = k
digits_then (x ∷ xs) ys h k = (h.0, digits_then xs ys h.1 k)

pub record IsText (n : ℕ) (ds : List ℕ) : Type 0 where
  pub digits : AreDigits ds
  pub number : number_of ds ≡ n
  pub some : 0 < length ds

pub decimal_text : (n : ℕ) → n < 2 ^ 64 → IsText n (decimal n)
decimal_text = decimal_by_steps IsText
    (λ n h. record { digits = (digit_is n h, tt); number = omega arith; some = omega arith })
    (λ n ds h t. record {
      digits = digits_then ds _ t.digits (digit_is (n % 10) (omega arith), tt);
      number = number_append ds ((48 + n % 10) ∷ []) ∙ (let e = t.number in omega arith);
      some = omega (arith, length-append ds ((48 + n % 10) ∷ []));
    })

spelled_some : (parts : Parts) → AreDecimal parts → 0 < length (spelled parts)
spelled_some parts a = omega (arith, a.some, length-append (sign parts.negative ++ parts.whole) (behind_point parts.fraction), length-append (sign parts.negative) parts.whole)

split_of : (parts : Parts) → AreDecimal parts → Splits (spelled parts) (length (sign parts.negative ++ parts.whole)) parts
split_of parts a = record {
  has = record { decimal = a; spells = refl };
  negative = sym (minus_of parts.negative parts.whole (behind_point parts.fraction) a.some a.whole);
  digits = sym (ap (λ n. slice_range (spelled parts) n (length (sign parts.negative ++ parts.whole))) (start_is parts.negative parts.whole (behind_point parts.fraction) a.some a.whole) ∙ slice parts.negative parts.whole (behind_point parts.fraction));
  fraction = sym (behind (sign parts.negative ++ parts.whole) parts.fraction);
}
  where
    slice : (b : Bool) (whole rest : List ℕ) → slice_range ((sign b ++ whole) ++ rest) (length (sign b)) (length (sign b ++ whole)) ≡ whole
    slice true whole rest = let e : suc (length whole) - 1 ≡ length whole = omega arith in rw e (take-append_seam whole rest)
    slice false whole rest = let e : length whole - 0 ≡ length whole = omega arith in rw e (take-append_seam whole rest)

    behind : (x : List ℕ) (f : Option (List ℕ)) → drop (min (length x + 1) (length (x ++ behind_point f))) (x ++ behind_point f) ≡ fraction_digits f
    behind x None = drop_of_length-le (x ++ []) (omega (arith, length-append x []))
    behind x (Some ds) =
        let m : min (length x + 1) (length (x ++ 46 ∷ ds)) ≡ length x + 1 = omega (arith, length-append x (46 ∷ ds)) in
        ap (λ n. drop n (x ++ 46 ∷ ds)) m ∙ drop-append-add x (46 ∷ ds) 1

-- A text of the grammar that is fine and fits is read as its number.
-- what the parts of a text that is read as a number have
pub read_parts : (scale : ℕ) (parts : Parts) → AreDecimal parts → (value : ℤ) → dec_of scale (spelled parts) ≡ Ok value → IsFine scale parts × (value ≡ signed parts.negative (scaled scale parts))
read_parts scale parts a value e = read_is scale (spelled parts) (length (sign parts.negative ++ parts.whole)) parts (split_of parts a) (spelled_some parts a) (accepted parts a) value e

-- A fine text of the grammar is read as its number, where that fits.
pub read_fit : (scale : ℕ) (parts : Parts) → AreDecimal parts → IsFine scale parts → dec_of scale (spelled parts) ≡ signed_fit parts.negative (fitting (scaled scale parts))
read_fit scale parts a f =
    dec_fine scale (spelled parts) _ (spelled_some parts a) (accepted parts a) (fine_end scale (spelled parts) _ parts (split_of parts a) f)
    ∙ fit_is scale (spelled parts) _ parts (split_of parts a)

pub complete : (scale : ℕ) (parts : Parts) → AreDecimal parts → IsFine scale parts → scaled scale parts ≤ reach parts.negative → dec_of scale (spelled parts) ≡ Ok (signed parts.negative (scaled scale parts))
complete scale parts a f r = read_fit scale parts a f ∙ fit_ok parts.negative (scaled scale parts) r

pub record IsFraction (places rest : ℕ) (ds : List ℕ) : Type 0 where
  pub digits : AreDigits ds
  pub short : length ds ≤ places
  pub number : number_of ds * 10 ^ (places - length ds) ≡ rest

quotient_small : (f p : ℕ) → 0 < p → f < 10 * p → f / p < 10
quotient_small f p h k = grind arith

pub more : (q l k p r n : ℕ) → l * k ≡ p → n * k ≡ r → (q * l + n) * k ≡ p * q + r
more q l k p r n e g = let a : (q * l + n) * k ≡ q * (l * k) + n * k = omega arith in a ∙ ap (λ x. q * x + n * k) e ∙ ap (λ x. q * p + x) g ∙ omega arith

pub whole_again : (f p : ℕ) → 0 < p → p * (f / p) + f % p ≡ f
whole_again f p h = omega arith

cons_fraction : (places rest : ℕ) → 0 < 10 ^ places → rest / 10 ^ places < 10 → (ds : List ℕ) → IsFraction places (rest % 10 ^ places) ds → IsFraction (suc places) rest ((48 + rest / 10 ^ places) ∷ ds)
cons_fraction places rest p q ds t =
    let k : suc places - suc (length ds) ≡ places - length ds = omega arith in
    let c : (48 + rest / 10 ^ places) - 48 ≡ rest / 10 ^ places = omega arith in
    let n : length ds + (places - length ds) ≡ places = omega (arith, t.short) in
    let e : 10 ^ length ds * 10 ^ (places - length ds) ≡ 10 ^ places = sym (pow-add 10 (length ds) (places - length ds)) ∙ ap (λ m. 10 ^ m) n in
    record {
      digits = (digit_is (rest / 10 ^ places) q, t.digits);
      short = omega (arith, t.short);
      number = rw (k, c) (more (rest / 10 ^ places) (10 ^ length ds) (10 ^ (places - length ds)) (10 ^ places) (rest % 10 ^ places) (number_of ds) e t.number ∙ whole_again rest (10 ^ places) p);
    }

pub fraction_is : (places rest : ℕ) → rest < 10 ^ places → IsFraction places rest (fraction_text places rest)
fraction_is zero rest h = record { digits = tt; short = omega arith; number = omega arith }
fraction_is (suc places) rest h =
    let p : 0 < 10 ^ places = one-le-pow places 10 (omega arith) in
    let q : 10 ^ suc places ≡ 10 * 10 ^ places = grind arith in
    let t : IsFraction places (rest % 10 ^ places) (fraction_text places (rest % 10 ^ places)) = fraction_is places (rest % 10 ^ places) (omega arith) in
    let go : (b : Bool) → (rest == 0) ≡ b → IsFraction (suc places) rest (cond b [] ((48 + rest / 10 ^ places) ∷ fraction_text places (rest % 10 ^ places))) = elim [
      | true ↦ λ e. let z : rest ≡ 0 = grind (arith, nat_tests) in record { digits = tt; short = omega arith; number = omega arith }
      | false ↦ λ e. cons_fraction places rest p (quotient_small rest (10 ^ places) p (omega arith)) (fraction_text places (rest % 10 ^ places)) t
    ] in
    go (rest == 0) refl

abbrev pub kept_fraction : ℕ → ℕ → Option (List ℕ)
kept_fraction scale rest = cond (rest == 0) None (Some (fraction_text scale rest))

abbrev pub canonical_parts : ℕ → ℤ → Parts
canonical_parts scale value = record { negative = is_negative value; whole = decimal (distance value / 10 ^ scale); fraction = kept_fraction scale (distance value % 10 ^ scale) }

pub fraction_kept : (scale rest : ℕ) → rest < 10 ^ scale → IsFraction scale rest (fraction_digits (kept_fraction scale rest))
fraction_kept scale rest h =
    let go : (b : Bool) → (rest == 0) ≡ b → IsFraction scale rest (fraction_digits (cond b None (Some (fraction_text scale rest)))) = elim [
      | true ↦ λ e. let z : rest ≡ 0 = grind (arith, nat_tests) in record { digits = tt; short = omega arith; number = omega arith }
      | false ↦ λ e. fraction_is scale rest h
    ] in
    go (rest == 0) refl

point_is : (scale rest : ℕ) → point_text scale rest ≡ behind_point (kept_fraction scale rest)
point_is scale rest = go (rest == 0)
  where
    go : (b : Bool) → cond b [] (46 ∷ fraction_text scale rest) ≡ behind_point (cond b None (Some (fraction_text scale rest)))
    go true = refl
    go false = refl

pub text_is : (scale : ℕ) (value : ℤ) → dec_text scale value ≡ spelled (canonical_parts scale value)
unfolding dec_text magnitude_text
text_is scale value =
    sym (append_assoc (sign (is_negative value)) (decimal (distance value / 10 ^ scale)) (point_text scale (distance value % 10 ^ scale)))
    ∙ ap (λ (t : List ℕ). (sign (is_negative value) ++ decimal (distance value / 10 ^ scale)) ++ t) (point_is scale (distance value % 10 ^ scale))

pub are_fraction : (f : Option (List ℕ)) → AreDigits (fraction_digits f) → AreFraction f
are_fraction None h = tt
are_fraction (Some ds) h = h

pub signed_is : (value : ℤ) → signed (is_negative value) (distance value) ≡ value
signed_is (pos n) = refl
signed_is (negsuc n) = refl

pub scaled_sum : (scale : ℕ) (whole digits : List ℕ) → length digits ≤ scale → number_of (whole ++ take scale digits) * 10 ^ (scale - length (take scale digits)) ≡ (number_of whole * 10 ^ length digits + number_of digits) * 10 ^ (scale - length digits)
scaled_sum scale whole digits h =
    let e : take scale digits ≡ digits = take_all scale digits h in
    rw e (ap (λ n. n * 10 ^ (scale - length digits)) (number_append whole digits))

pub quotient_fits : (n q : ℕ) → n < 2 ^ 64 → n / q < 2 ^ 64
quotient_fits n q h = let l : n / q ≤ n = grind arith in omega arith

pub reach_small : (b : Bool) → reach b < 2 ^ 64
reach_small true = omega arith
reach_small false = omega arith

-- The canonical text of a number of 64 bits is read as the number.
pub again : (scale : ℕ) (value : ℤ) → distance value ≤ reach (is_negative value) → dec_of scale (dec_text scale value) ≡ Ok value
again scale value h =
    let p : 0 < 10 ^ scale = one-le-pow scale 10 (omega arith) in
    let small : distance value / 10 ^ scale < 2 ^ 64 = quotient_fits (distance value) (10 ^ scale) (omega (arith, reach_small (is_negative value))) in
    let w : IsText (distance value / 10 ^ scale) (decimal (distance value / 10 ^ scale)) = decimal_text (distance value / 10 ^ scale) small in
    let f : IsFraction scale (distance value % 10 ^ scale) (fraction_digits (kept_fraction scale (distance value % 10 ^ scale))) = fraction_kept scale (distance value % 10 ^ scale) (omega arith) in
    let a : AreDecimal (canonical_parts scale value) = record { some = w.some; whole = w.digits; fraction = are_fraction (kept_fraction scale (distance value % 10 ^ scale)) f.digits } in
    let none : past scale (canonical_parts scale value) ≡ [] = drop_of_length-le (fraction_digits (kept_fraction scale (distance value % 10 ^ scale))) f.short in
    let fine : IsFine scale (canonical_parts scale value) = rw none refl in
    let sum : scaled scale (canonical_parts scale value) ≡ distance value =
    scaled_sum scale (decimal (distance value / 10 ^ scale)) (fraction_digits (kept_fraction scale (distance value % 10 ^ scale))) f.short
    ∙ more (number_of (decimal (distance value / 10 ^ scale))) (10 ^ length (fraction_digits (kept_fraction scale (distance value % 10 ^ scale)))) (10 ^ (scale - length (fraction_digits (kept_fraction scale (distance value % 10 ^ scale))))) (10 ^ scale) (distance value % 10 ^ scale) (number_of (fraction_digits (kept_fraction scale (distance value % 10 ^ scale)))) (powers scale (length (fraction_digits (kept_fraction scale (distance value % 10 ^ scale)))) f.short) f.number
    ∙ ap (λ n. 10 ^ scale * n + distance value % 10 ^ scale) w.number
    ∙ whole_again (distance value) (10 ^ scale) p in
    ap (λ (t : List ℕ). dec_of scale t) (text_is scale value)
    ∙ complete scale (canonical_parts scale value) a fine (omega (arith, sum, h))
    ∙ ap (λ n. Ok (signed (is_negative value) n)) sum
    ∙ ap (λ (z : ℤ). Ok z) (signed_is value)
  where
    powers : (n l : ℕ) → l ≤ n → 10 ^ l * 10 ^ (n - l) ≡ 10 ^ n
    powers n l h = let e : l + (n - l) ≡ n = omega arith in sym (pow-add 10 l (n - l)) ∙ ap (λ k. 10 ^ k) e
