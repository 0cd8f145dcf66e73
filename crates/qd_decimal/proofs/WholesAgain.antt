-- The canonical texts of whole numbers and counts are read as the numbers.
use Rattle.std.proofs.Common.{◌≡◌, ℕ, ◌+◌, ◌-◌, ◌*◌, ◌/◌, ◌%◌, ◌^◌, ◌<◌, ◌≤◌, Bool, true, false, List, [], ◌∷◌, ◌++◌, length, drop, ◌∙◌, ap, arith}
use Rattle.std.specs.Prelude.{◌==◌, decimal, Result, Ok}
use Rattle.std.proofs.Math.Seq.{drop-append_seam}
use lib.IntN.{ℤ}
use Rattle.qd_decimal.specs.Grammar.{sign, IsCount, number_of, signed}
use Rattle.qd_decimal.specs.Numbers.{fitting, reach, signed_fit, count_fit}
use Rattle.qd_decimal.specs.Reading.{has_minus, start_of, whole_at, dec_of, int_of, count_of}
use Rattle.qd_decimal.specs.Texts.{magnitude_text, dec_text, distance, is_negative}
use Rattle.qd_decimal.specs.declared.fault.DecFault.{DecFault}
use Rattle.qd_decimal.proofs.Shapes.{append_none, minus_of}
use Rattle.qd_decimal.proofs.Places.{start_within}
use Rattle.qd_decimal.proofs.Values.{fit_ok}
use Rattle.qd_decimal.proofs.Wholes.{Goes, count_goes, spelled_goes, start_whole, Digits, go, stop, digits_of, int_good, count_good, count_ok}
use Rattle.qd_decimal.proofs.Again.{IsText, decimal_text, signed_is, again}

good_digits : (text : List ℕ) (from : ℕ) → Goes text from → Digits text from → whole_at text from ≡ Ok (fitting (number_of (drop from text)))
good_digits text from g (go h e) = e
good_digits text from g (stop n e) = absurd (n g)

minus_sign : (negative : Bool) (digits : List ℕ) → IsCount digits → has_minus (sign negative ++ digits) ≡ negative
minus_sign negative digits c =
    let m : has_minus ((sign negative ++ digits) ++ []) ≡ negative = minus_of negative digits [] c.0 c.1 in
    rw (append_none (sign negative ++ digits)) at m

not_empty : (negative : Bool) (digits : List ℕ) → IsCount digits → length (sign negative ++ digits) ≡ 0 → ⊥
not_empty true digits c h = omega arith
not_empty false digits c h = omega (arith, c.0)

-- A whole number is read as its number, where that fits.
pub int_fit : (negative : Bool) (digits : List ℕ) → IsCount digits → int_of (sign negative ++ digits) ≡ signed_fit negative (fitting (number_of digits))
int_fit negative digits c =
    let s : start_of (sign negative ++ digits) ≡ length (sign negative) = start_whole negative digits c in
    let d : drop (start_of (sign negative ++ digits)) (sign negative ++ digits) ≡ digits = ap (λ n. drop n (sign negative ++ digits)) s ∙ drop-append_seam (sign negative) digits in
    let w : whole_at (sign negative ++ digits) (start_of (sign negative ++ digits)) ≡ Ok (fitting (number_of digits)) =
    good_digits (sign negative ++ digits) (start_of (sign negative ++ digits)) (spelled_goes negative digits c) (digits_of (sign negative ++ digits) (start_of (sign negative ++ digits)) (start_within (sign negative ++ digits)))
    ∙ ap (λ (t : List ℕ). Ok (fitting (number_of t))) d in
    int_good (sign negative ++ digits) (not_empty negative digits c) (fitting (number_of digits)) w
    ∙ ap (λ b. signed_fit b (fitting (number_of digits))) (minus_sign negative digits c)

int_complete : (negative : Bool) (digits : List ℕ) → IsCount digits → number_of digits ≤ reach negative → int_of (sign negative ++ digits) ≡ Ok (signed negative (number_of digits))
int_complete negative digits c h = int_fit negative digits c ∙ fit_ok negative (number_of digits) h

reach_small : (b : Bool) → reach b < 2 ^ 64
reach_small true = omega arith
reach_small false = omega arith

pub no_point : (n : ℕ) → magnitude_text 0 n ≡ decimal n
unfolding magnitude_text
no_point n =
    let q : n / 1 ≡ n = omega arith in
    let r : n % 1 ≡ 0 = omega arith in
    rw (q, r) (append_none (decimal n))

pub int_again : (value : ℤ) → distance value ≤ reach (is_negative value) → int_of (dec_text 0 value) ≡ Ok value
unfolding dec_text
int_again value h =
    let t : IsText (distance value) (decimal (distance value)) = decimal_text (distance value) (omega (arith, reach_small (is_negative value))) in
    ap (λ (s : List ℕ). int_of (sign (is_negative value) ++ s)) (no_point (distance value))
    ∙ int_complete (is_negative value) (decimal (distance value)) (t.some, t.digits) (omega (arith, t.number, h))
    ∙ ap (λ n. Ok (signed (is_negative value) n)) t.number
    ∙ ap (λ (z : ℤ). Ok z) (signed_is value)

pub count_again : (most n : ℕ) → most < 2 ^ 64 → n ≤ most → count_of most (decimal n) ≡ Ok n
count_again most n h k =
    let t : IsText n (decimal n) = decimal_text n (omega arith) in
    let g : Goes (decimal n) 0 = count_goes (decimal n) (t.some, t.digits) in
    let w : whole_at (decimal n) 0 ≡ Ok (fitting (number_of (decimal n))) = good_digits (decimal n) 0 g (digits_of (decimal n) 0 (omega arith)) in
    count_good most (decimal n) (λ z. let s = t.some in omega arith) (fitting (number_of (decimal n))) w
    ∙ ap (λ m. count_fit most (fitting m)) t.number
    ∙ count_ok most n h k

same_value : (r s : Result ℤ DecFault) (a b : ℤ) → r ≡ Ok a → s ≡ Ok b → r ≡ s → a ≡ b
same_value r s a b p q e = cc

pub different_texts : (scale : ℕ) (a b : ℤ) → distance a ≤ reach (is_negative a) → distance b ≤ reach (is_negative b) → dec_text scale a ≡ dec_text scale b → a ≡ b
different_texts scale a b h k e = same_value (dec_of scale (dec_text scale a)) (dec_of scale (dec_text scale b)) a b (again scale a h) (again scale b k) (ap (λ (t : List ℕ). dec_of scale t) e)
