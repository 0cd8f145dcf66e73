use Rattle.std.proofs.Common.{◌≡◌, ℕ, suc, ◌+◌, ◌-◌, ◌*◌, ◌<◌, ◌≤◌, ◌^◌, ◌∙◌, refl, sym, ap, arith, subst, drop, get_or, true}
use Rattle.std.specs.Prelude.{Some, nat_le}
use Rattle.std.proofs.lemmas.Bool.Decides.{nat_tests}
use Rattle.std.specs.List.{prefix_len}
use Rattle.std.proofs.lemmas.List.Sums.{prefix_len-drop_yes}
use Rattle.qd_decimal.specs.Grammar.{is_digit}
use Rattle.qd_decimal.specs.Numbers.{with_digit}
use Rattle.qd_decimal.proofs.Ends.{digits_more, digit_fits}
use Rattle.qd_decimal.proofs.FewDigits.{few_fits, few_more, few_left}
use Rattle.qd_decimal.proofs.digits.short_run.Goals as goal

nat_le_yes : (n m : ℕ) → n ≤ m → nat_le n m ≡ true
nat_le_yes n m h = grind (arith, nat_tests)

pub loop-at-init : goal.loop-at-init
loop-at-init c =
    let none : c.args.from - c.args.from ≡ 0 = omega arith in
    record {
      same = omega arith;
      number = rw none refl;
      forward = omega arith;
      within = omega arith;
      small = few_fits c.args.number (c.args.to - c.args.from) c.requires.few;
      few = rw none (omega arith);
    }

pub loop-at-preserved : goal.loop-at-preserved
loop-at-preserved c =
    let byte : ℕ = get_or c.args.text.now c.loop-at.at 0 in
    let few : nat_le c.digit_of-digit.result 9 ≡ true = nat_le_yes c.digit_of-digit.result 9 (omega arith) in
    let some : is_digit byte ≡ true = c.digit_of-digit.ensures.digit ∙ few in
    let counts : c.digit_of-digit.result ≡ byte - 48 = c.digit_of-digit.ensures.value some in
    let more : prefix_len is_digit (drop c.loop-at.at c.args.text.now) ≡ 1 + prefix_len is_digit (drop (c.loop-at.at + 1) c.args.text.now) = prefix_len-drop_yes is_digit c.args.text.now c.loop-at.at 0 (omega arith) some in
    let next : c.loop-at.at + 1 - c.args.from ≡ suc (c.loop-at.at - c.args.from) = omega arith in
    let large : c.loop-at.value * 10 + (byte - 48) + 1 ≤ (c.args.number + 1) * 10 ^ (c.loop-at.at + 1 - c.args.from) = rw next (few_more c.args.number c.loop-at.value byte (c.loop-at.at - c.args.from) some c.loop-at.invariant.few) in
    let most : (c.args.number + 1) * 10 ^ (c.loop-at.at + 1 - c.args.from) ≤ 10 ^ 18 = few_left c.args.number (c.loop-at.at + 1 - c.args.from) (c.args.to - c.args.from) (omega arith) c.requires.few in
    let small : c.loop-at.value * 10 + (byte - 48) < 1000000000000000000 = omega arith in
    record {
      same = omega arith;
      number =
          digits_more (Some c.args.number) c.args.text.now c.args.from c.loop-at.at (omega arith) (omega arith)
          ∙ ap (λ v. with_digit v byte) c.loop-at.invariant.number
          ∙ digit_fits c.loop-at.value byte (omega arith) some
          ∙ ap (λ n. Some (c.loop-at.value * 10 + n)) (sym counts);
      forward = omega arith;
      within = omega arith;
      small = subst (λ n. c.loop-at.value * 10 + n < 1000000000000000000) (sym counts) small;
      few = subst (λ n. c.loop-at.value * 10 + n + 1 ≤ (c.args.number + 1) * 10 ^ (c.loop-at.at + 1 - c.args.from)) (sym counts) large;
    }
