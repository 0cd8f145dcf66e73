-- The digits of a fraction as those of a whole number behind a 1, which keeps the zeros that they begin with.
use Rattle.std.proofs.Common.{◌≡◌, ℕ, zero, suc, ◌+◌, ◌-◌, ◌*◌, ◌/◌, ◌%◌, ◌^◌, ◌<◌, ◌≤◌, Bool, true, false, cond, List, [], ◌∷◌, ◌++◌, length, drop, set, refl, sym, ◌∙◌, ap, arith, append_assoc}
use Rattle.std.specs.Prelude.{◌==◌, decimal}
use Rattle.std.proofs.lemmas.Bool.Decides.{nat_tests}
use Rattle.std.proofs.lemmas.Fmt.{decimal_digit, decimal_step, decimal_nonempty, length-decimal-le}
use Rattle.std.proofs.lemmas.List.{drop-set, drop_more}
use Rattle.std.proofs.lemmas.Nat.{div-mul-add, mod-mul-add}
use Rattle.std.proofs.lemmas.Nat.{pow-add}
use Rattle.std.proofs.Math.Nat.{div-add-mod}
use Rattle.qd_decimal.specs.Texts.{fraction_text, point_text}
use Rattle.qd_decimal.proofs.Fractions.{power_positive}

pow_more : (n : ℕ) → 10 ^ suc n ≡ 10 * 10 ^ n
pow_more n = grind arith

not_nought : (n : ℕ) → 0 < n → (n == 0) ≡ false
not_nought n h = grind (arith, nat_tests)

-- a number of two parts, of which the lower one has one digit more than the power
module _ (r h l power : ℕ) (is : r ≡ h * (10 * power) + l) (small : l < 10 * power) where
  tenth : r / 10 ≡ h * power + l / 10
  tenth = omega arith

  tenth_small : l / 10 < power
  tenth_small = omega arith

  same_last : r % 10 ≡ l % 10
  same_last = omega arith

  same_front : (r / 10) / power ≡ h
  same_front = rw tenth (div-mul-add h power (l / 10) tenth_small)

  same_rest : (r / 10) % power ≡ l / 10
  same_rest = rw tenth (mod-mul-add h power (l / 10) tenth_small)

halves : (r m : ℕ) → r ≡ (r / m) * m + r % m
halves r m = let e : m * (r / m) + r % m ≡ r = div-add-mod r m in omega arith

-- so many digits, whatever they are
abbrev pub digits : ℕ → ℕ → List ℕ
digits zero r = []
digits (suc places) r = (48 + r / 10 ^ places) ∷ digits places (r % 10 ^ places)

module _ (q r : ℕ) where
  lower : ℕ
  lower = r % 10 ^ suc q

  lower_small : r % 10 ^ suc q < 10 * 10 ^ q
  lower_small = let p : 0 < 10 ^ suc q = power_positive (suc q) in let e : 10 ^ suc q ≡ 10 * 10 ^ q = pow_more q in let s : r % 10 ^ suc q < 10 ^ suc q = omega arith in omega arith

  parts_of : r ≡ (r / 10 ^ suc q) * (10 * 10 ^ q) + r % 10 ^ suc q
  parts_of = halves r (10 ^ suc q) ∙ ap (λ m. (r / 10 ^ suc q) * m + r % 10 ^ suc q) (pow_more q)

  front_is : (r / 10) / 10 ^ q ≡ r / 10 ^ suc q
  front_is = same_front r (r / 10 ^ suc q) (r % 10 ^ suc q) (10 ^ q) parts_of lower_small

  rest_is : (r / 10) % 10 ^ q ≡ (r % 10 ^ suc q) / 10
  rest_is = same_rest r (r / 10 ^ suc q) (r % 10 ^ suc q) (10 ^ q) parts_of lower_small

  last_is : r % 10 ≡ (r % 10 ^ suc q) % 10
  last_is = same_last r (r / 10 ^ suc q) (r % 10 ^ suc q) (10 ^ q) parts_of lower_small

-- the last digit stands alone
digits_last : (places r : ℕ) → r < 10 ^ suc places → digits (suc places) r ≡ digits places (r / 10) ++ (48 + r % 10) ∷ []
digits_last zero r h =
    let e : r / 1 ≡ r % 10 = omega arith in
    ap (λ d. (48 + d) ∷ []) e
digits_last (suc q) r h =
    let s : r % 10 ^ suc q < 10 ^ suc q = (let p : 0 < 10 ^ suc q = power_positive (suc q) in omega arith) in
    ap (λ (t : List ℕ). (48 + r / 10 ^ suc q) ∷ t) (digits_last q (r % 10 ^ suc q) s)
    ∙ ap (λ d. (48 + d) ∷ (digits q ((r % 10 ^ suc q) / 10) ++ (48 + (r % 10 ^ suc q) % 10) ∷ [])) (sym (front_is q r))
    ∙ ap (λ d. (48 + (r / 10) / 10 ^ q) ∷ (digits q d ++ (48 + (r % 10 ^ suc q) % 10) ∷ [])) (sym (rest_is q r))
    ∙ ap (λ d. (48 + (r / 10) / 10 ^ q) ∷ (digits q ((r / 10) % 10 ^ q) ++ (48 + d) ∷ [])) (sym (last_is q r))

-- the digits behind a 1
pub behind_one : (places r : ℕ) → r < 10 ^ places → 10 ^ places + r < 2 ^ 64 → decimal (10 ^ places + r) ≡ 49 ∷ digits places r
behind_one zero r h k =
    let e : r ≡ 0 = omega arith in
    rw e (decimal_digit 1 (omega arith))
behind_one (suc q) r h k =
    let p : 0 < 10 ^ q = power_positive q in
    let m : 10 ^ suc q ≡ 10 * 10 ^ q = pow_more q in
    let f : (10 ^ suc q + r) / 10 ≡ 10 ^ q + r / 10 = omega arith in
    let l : (10 ^ suc q + r) % 10 ≡ r % 10 = omega arith in
    decimal_step (10 ^ suc q + r) (omega arith) k
    ∙ ap (λ n. decimal n ++ (48 + (10 ^ suc q + r) % 10) ∷ []) f
    ∙ ap (λ (t : List ℕ). t ++ (48 + (10 ^ suc q + r) % 10) ∷ []) (behind_one q (r / 10) (omega arith) (omega arith))
    ∙ ap (λ d. (49 ∷ digits q (r / 10)) ++ (48 + d) ∷ []) l
    ∙ ap (λ (t : List ℕ). 49 ∷ t) (sym (digits_last q r h))

-- A fraction whose last digit is not 0 has all its digits.
pub all_digits : (places r : ℕ) → r < 10 ^ places → 0 < r % 10 → fraction_text places r ≡ digits places r
all_digits zero r h k = refl
all_digits (suc zero) r h k = rw (not_nought r (omega arith)) refl
all_digits (suc (suc q)) r h k =
    let p : 0 < 10 ^ suc q = power_positive (suc q) in
    rw (not_nought r (omega arith)) (ap (λ (t : List ℕ). (48 + r / 10 ^ suc q) ∷ t) (all_digits (suc q) (r % 10 ^ suc q) (omega arith) (omega (arith, last_is q r))))

-- a zero at the end of a fraction goes
module _ (q r : ℕ) where
  ten_times : 10 * r ≡ (r / 10 ^ q) * (10 * 10 ^ q) + 10 * (r % 10 ^ q)
  ten_times = let e : r ≡ (r / 10 ^ q) * 10 ^ q + r % 10 ^ q = halves r (10 ^ q) in omega arith

  ten_small : 10 * (r % 10 ^ q) < 10 * 10 ^ q
  ten_small = let p : 0 < 10 ^ q = power_positive q in omega arith

  ten_front : (10 * r) / 10 ^ suc q ≡ r / 10 ^ q
  ten_front = ap (λ m. (10 * r) / m) (pow_more q) ∙ ap (λ n. n / (10 * 10 ^ q)) ten_times ∙ div-mul-add (r / 10 ^ q) (10 * 10 ^ q) (10 * (r % 10 ^ q)) ten_small

  ten_rest : (10 * r) % 10 ^ suc q ≡ 10 * (r % 10 ^ q)
  ten_rest = ap (λ m. (10 * r) % m) (pow_more q) ∙ ap (λ n. n % (10 * 10 ^ q)) ten_times ∙ mod-mul-add (r / 10 ^ q) (10 * 10 ^ q) (10 * (r % 10 ^ q)) ten_small

zero_goes : (places r : ℕ) → r < 10 ^ places → fraction_text (suc places) (10 * r) ≡ fraction_text places r
zero_goes zero r h = let e : r ≡ 0 = omega arith in rw e refl
zero_goes (suc q) r h =
    let p : 0 < 10 ^ q = power_positive q in
    same_test (r == 0) (10 * r == 0) (tests r) _ _ _ _
    (ap (λ d. 48 + d) (ten_front q r))
    (ap (λ n. fraction_text (suc q) n) (ten_rest q r) ∙ zero_goes q (r % 10 ^ q) (omega arith))
  where
    tests : (n : ℕ) → (n == 0) ≡ (10 * n == 0)
    tests n = grind (arith, nat_tests)

    same_test : (s t : Bool) → s ≡ t → (a b : ℕ) (x y : List ℕ) → a ≡ b → x ≡ y → cond t [] (a ∷ x) ≡ cond s [] (b ∷ y)
    same_test true t e a b x y f g = rw (← e) refl
    same_test false t e a b x y f g = rw (← e) cc

-- one step of leaving zeros out
pub fewer : (left rest : ℕ) → 0 < left → rest < 10 ^ left → rest % 10 ≡ 0 → fraction_text (left - 1) (rest / 10) ≡ fraction_text left rest
fewer zero rest h k e = absurd (omega arith)
fewer (suc left) rest h k e =
    let one : suc left - 1 ≡ left = omega arith in
    let m : 10 ^ suc left ≡ 10 * 10 ^ left = pow_more left in
    let t : 10 * (rest / 10) ≡ rest = omega arith in
    rw one (sym (zero_goes left (rest / 10) (omega arith)) ∙ ap (λ n. fraction_text (suc left) n) t)

pub tenth_below : (left rest : ℕ) → 0 < left → rest < 10 ^ left → rest / 10 < 10 ^ (left - 1)
tenth_below zero rest h k = absurd (omega arith)
tenth_below (suc left) rest h k = let one : suc left - 1 ≡ left = omega arith in let m : 10 ^ suc left ≡ 10 * 10 ^ left = pow_more left in rw one (omega arith)

-- a number below a power has some place
pub some_place : (left rest : ℕ) → 0 < rest → rest < 10 ^ left → 0 < left
some_place zero rest h k = absurd (omega arith)
some_place (suc left) rest h k = omega arith

-- a point in place of the 1
pub point_at : (buffer rest : List ℕ) (start places r part whole : ℕ) → start < length buffer → drop start buffer ≡ decimal (10 ^ places + r) ++ rest → r < 10 ^ places → 10 ^ places + r < 2 ^ 64 → 0 < r % 10 → 0 < part → fraction_text places r ≡ fraction_text whole part → drop start (set buffer start 46) ≡ point_text whole part ++ rest
point_at buffer rest start places r part whole h w s k l p e =
    drop-set buffer start 46 h
    ∙ ap (λ (t : List ℕ). 46 ∷ t) (ap (λ (t : List ℕ). drop 1 t) (sym (drop_more buffer start 0 h) ∙ w ∙ ap (λ (t : List ℕ). t ++ rest) (behind_one places r s k)) ∙ ap (λ (t : List ℕ). t ++ rest) (sym (all_digits places r s l) ∙ e))
    ∙ rw (not_nought part p) refl

pub no_point : (places part : ℕ) (rest : List ℕ) → part ≡ 0 → rest ≡ point_text places part ++ rest
no_point places part rest e = rw e refl

pub power_most : (places : ℕ) → places ≤ 9 → 10 ^ places ≤ 1000000000
power_most places h = let e : 10 ^ (9 - places) * 10 ^ places ≡ 10 ^ 9 = sym (pow-add 10 (9 - places) places) ∙ ap (λ n. 10 ^ n) (sum places h) in let p : 1 ≤ 10 ^ (9 - places) = power_positive (9 - places) in most (10 ^ (9 - places)) (10 ^ places) e p
  where
    sum : (n : ℕ) → n ≤ 9 → (9 - n) + n ≡ 9
    sum n h = omega arith

    most : (a b : ℕ) → a * b ≡ 10 ^ 9 → 1 ≤ a → b ≤ 1000000000
    most a b e h = grind arith

-- the digits behind a 1 are a number of few digits
pub number_small : (places r power : ℕ) → places ≤ 9 → power ≡ 10 ^ places → r < 10 ^ places → power + r < 2000000000
number_small places r power h e k = omega (arith, power_most places h)

pub number_short : (n : ℕ) → n < 2000000000 → length (decimal n) ≤ 10
number_short n h = length-decimal-le 10 n (omega arith) (omega arith) (omega arith)

pub number_some : (n : ℕ) → n < 2000000000 → 0 < length (decimal n)
number_some n h = decimal_nonempty n (omega arith)

pub part_below : (n scale part : ℕ) → part ≡ n % 10 ^ scale → part < 10 ^ scale
part_below n scale part e = let p : 0 < 10 ^ scale = power_positive scale in omega arith

pub front_then_point : (buffer old rest : List ℕ) (start point n scale front part : ℕ) → front ≡ n / 10 ^ scale → part ≡ n % 10 ^ scale → drop point old ≡ point_text scale part ++ rest → drop start buffer ≡ decimal front ++ drop point old → drop start buffer ≡ (decimal (n / 10 ^ scale) ++ point_text scale (n % 10 ^ scale)) ++ rest
front_then_point buffer old rest start point n scale front part f r p w =
    w
    ∙ ap (λ (t : List ℕ). decimal front ++ t) p
    ∙ sym (append_assoc (decimal front) (point_text scale part) rest)
    ∙ ap (λ m. (decimal m ++ point_text scale part) ++ rest) f
    ∙ ap (λ m. (decimal (n / 10 ^ scale) ++ point_text scale m) ++ rest) r

pub byte_before : (buffer : List ℕ) (start byte : ℕ) → 0 < start → start ≤ length buffer → drop (start - 1) (set buffer (start - 1) byte) ≡ byte ∷ drop start buffer
byte_before buffer start byte h k = let i : start - 1 + 1 ≡ start = omega arith in drop-set buffer (start - 1) byte (omega arith) ∙ ap (λ n. byte ∷ drop n buffer) i
