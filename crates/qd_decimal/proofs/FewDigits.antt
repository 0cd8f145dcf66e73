-- Few digits always fit.
use Rattle.std.proofs.Common.{◌≡◌, ℕ, suc, ◌+◌, ◌-◌, ◌*◌, ◌^◌, ◌<◌, ◌≤◌, ◌∙◌, sym, ap, arith, Bool, true, false}
use Rattle.std.specs.Prelude.{Some, Ok}
use Rattle.std.proofs.lemmas.Bool.Decides.{nat_tests}
use Rattle.std.proofs.Math.Nat.{one-le-pow, pow-le-pow_right, le-mul_of_pos_right, mul-le-mul_right, mul-le-mul_left}
use Rattle.std.proofs.lemmas.Nat.{pow-add}
use Rattle.qd_decimal.specs.Grammar.{is_digit, signed}
use Rattle.qd_decimal.specs.Numbers.{fitting, times, signed_fit}
use Rattle.qd_decimal.proofs.Values.{fit_ok}

-- a number that leaves room for more digits is small
pub few_fits : (v k : ℕ) → (v + 1) * 10 ^ k ≤ 10 ^ 18 → v < 1000000000000000000
few_fits v k h = let g : v + 1 ≤ (v + 1) * 10 ^ k = le-mul_of_pos_right (v + 1) (one-le-pow k 10 (omega arith)) in omega arith

digit_most : (d : ℕ) → is_digit d ≡ true → d - 48 ≤ 9
digit_most d h = grind (arith, nat_tests)

-- one more digit makes a number at most ten times as large
pub few_more : (n v byte k : ℕ) → is_digit byte ≡ true → v + 1 ≤ (n + 1) * 10 ^ k → v * 10 + (byte - 48) + 1 ≤ (n + 1) * 10 ^ suc k
few_more n v byte k d h =
    let p : 10 ^ suc k ≡ 10 * 10 ^ k = grind arith in
    let e : (n + 1) * 10 ^ suc k ≡ (n + 1) * (10 * 10 ^ k) = ap (λ p. (n + 1) * p) p in
    let f : (n + 1) * (10 * 10 ^ k) ≡ 10 * ((n + 1) * 10 ^ k) = omega arith in
    omega (arith, digit_most byte d)

-- up to 18 digits
pub few_first : (k : ℕ) → k ≤ 18 → (0 + 1) * 10 ^ k ≤ 10 ^ 18
few_first k h = let p : 10 ^ k ≤ 10 ^ 18 = pow-le-pow_right (omega arith) h in omega arith

-- fewer digits have room where more have
pub few_left : (v j k : ℕ) → j ≤ k → (v + 1) * 10 ^ k ≤ 10 ^ 18 → (v + 1) * 10 ^ j ≤ 10 ^ 18
few_left v j k l h =
    let p : 10 ^ j ≤ 10 ^ k = pow-le-pow_right (omega arith) l in
    let m : (v + 1) * 10 ^ j ≤ (v + 1) * 10 ^ k = mul-le-mul_left (v + 1) p in
    omega arith

-- digits behind those that leave room for a fraction
pub few_then : (v j k : ℕ) → v + 1 ≤ (0 + 1) * 10 ^ j → j + k ≤ 18 → (v + 1) * 10 ^ k ≤ 10 ^ 18
few_then v j k h l =
    let m : (v + 1) * 10 ^ k ≤ ((0 + 1) * 10 ^ j) * 10 ^ k = mul-le-mul_right (10 ^ k) h in
    let e : ((0 + 1) * 10 ^ j) * 10 ^ k ≡ 10 ^ j * 10 ^ k = omega arith in
    let s : 10 ^ (j + k) ≡ 10 ^ j * 10 ^ k = pow-add 10 j k in
    let p : 10 ^ (j + k) ≤ 10 ^ 18 = pow-le-pow_right (omega arith) l in
    omega arith

-- with the zeros that are left out behind them
pub few_whole : (v k : ℕ) → (v + 1) * 10 ^ k ≤ 10 ^ 18 → v * 10 ^ k < 10 ^ 18
few_whole v k h = let p : 1 ≤ 10 ^ k = one-le-pow k 10 (omega arith) in let e : (v + 1) * 10 ^ k ≡ v * 10 ^ k + 10 ^ k = omega arith in omega arith

pub few_part : (n m j k : ℕ) → m + 1 ≤ (n + 1) * 10 ^ j → (n + 1) * 10 ^ (j + k) ≤ 10 ^ 18 → m * 10 ^ k < 10 ^ 18
few_part n m j k h l =
    let p : (m + 1) * 10 ^ k ≤ ((n + 1) * 10 ^ j) * 10 ^ k = mul-le-mul_right (10 ^ k) h in
    let s : 10 ^ (j + k) ≡ 10 ^ j * 10 ^ k = pow-add 10 j k in
    let e : (n + 1) * 10 ^ (j + k) ≡ (n + 1) * (10 ^ j * 10 ^ k) = ap (λ q. (n + 1) * q) s in
    let f : (n + 1) * (10 ^ j * 10 ^ k) ≡ ((n + 1) * 10 ^ j) * 10 ^ k = omega arith in
    few_whole m k (omega arith)

-- such a number is told
pub few_told : (negative : Bool) (digits power missing : ℕ) → power ≡ 10 ^ missing → digits * 10 ^ missing < 10 ^ 18 → signed_fit negative (times (Some digits) (10 ^ missing)) ≡ Ok (signed negative (digits * power))
few_told negative digits power missing e h = fit_ok_small negative (digits * 10 ^ missing) h ∙ ap (λ p. Ok (signed negative (digits * p))) (sym e)
  where
    fit_ok_small : (b : Bool) (n : ℕ) → n < 10 ^ 18 → signed_fit b (fitting n) ≡ Ok (signed b n)
    fit_ok_small true n h = fit_ok true n (omega arith)
    fit_ok_small false n h = fit_ok false n (omega arith)
