-- Numbers of one or two digits, and numbers without a sign and a fraction.
use Rattle.std.proofs.Common.{◌≡◌, ℕ, ◌+◌, ◌/◌, ◌%◌, ◌^◌, ◌<◌, ◌≤◌, suc, Bool, true, false, cond, List, [], ◌∷◌, ◌++◌, length, refl, sym, ◌∙◌, ap, arith}
use Rattle.std.specs.Prelude.{decimal, nat_le}
use Rattle.std.proofs.lemmas.Bool.Decides.{nat_tests}
use Rattle.std.proofs.lemmas.Fmt.{decimal_digit, decimal_step}
use lib.IntN.{ℤ, pos, negsuc}
use lib.Signed.{le_z}
use Rattle.qd_decimal.specs.Texts.{dec_text, distance, is_negative}
use Rattle.qd_decimal.proofs.WholesAgain.{no_point}

pub one_digit : (n : ℕ) → n < 10 → decimal n ≡ (48 + n) ∷ []
one_digit n h = decimal_digit n h

pub two_digits : (n : ℕ) → 10 ≤ n → n < 100 → decimal n ≡ (48 + n / 10) ∷ (48 + n % 10) ∷ []
two_digits n h k = decimal_step n h (omega arith) ∙ ap (λ (t : List ℕ). t ++ (48 + n % 10) ∷ []) (decimal_digit (n / 10) (omega arith))

-- the text of a whole number that is not negative
whole_text : (scale : ℕ) (value : ℤ) → scale ≡ 0 → is_negative value ≡ false → decimal (distance value) ≡ dec_text scale value
unfolding dec_text
whole_text scale value e h = rw (e, h) (sym (no_point (distance value)))

not_negative : (value : ℤ) → le_z (pos 0) value ≡ true → is_negative value ≡ false
not_negative (pos n) h = refl
not_negative (negsuc n) h = grind (arith, nat_tests)

pub whole_room : (room : Bool) (len scale : ℕ) (value : ℤ) → scale ≡ 0 → le_z (pos 0) value ≡ true → room ≡ nat_le (len + suc (length (decimal (distance value)))) 4096 → room ≡ nat_le (len + suc (length (dec_text scale value))) 4096
whole_room room len scale value e h r = r ∙ ap (λ (t : List ℕ). nat_le (len + suc (length t)) 4096) (whole_text scale value e (not_negative value h))

pub whole_appended : (room : Bool) (new out : List ℕ) (scale : ℕ) (value : ℤ) → scale ≡ 0 → le_z (pos 0) value ≡ true → new ≡ cond room (out ++ 9 ∷ decimal (distance value)) out → new ≡ cond room (out ++ 9 ∷ dec_text scale value) out
whole_appended room new out scale value e h r = r ∙ ap (λ (t : List ℕ). cond room (out ++ 9 ∷ t) out) (whole_text scale value e (not_negative value h))
