use Rattle.std.proofs.Common.{◌≡◌, ◌+◌, ◌-◌, ◌<◌, ◌≤◌, ◌∙◌, sym, ap, arith, drop, get_or, true, false}
use Rattle.std.specs.List.{prefix_len}
use Rattle.std.proofs.lemmas.List.Sums.{prefix_len-drop_yes, prefix_len-drop_no}
use Rattle.qd_decimal.specs.Grammar.{is_digit}
use Rattle.qd_decimal.specs.Numbers.{with_digit}
use Rattle.qd_decimal.specs.Reading.{digits_end}
use Rattle.qd_decimal.proofs.Ends.{digits_more}
use Rattle.qd_decimal.proofs.digits.rest_of_run.Goals as goal

pub loop-at-preserved : goal.loop-at-preserved
loop-at-preserved c =
    let some : is_digit (get_or c.args.text.now c.loop-at.at 0) ≡ true = sym c.is_digit.ensures ∙ c.if-is_digit.true in
    let more : prefix_len is_digit (drop c.loop-at.at c.args.text.now) ≡ 1 + prefix_len is_digit (drop (c.loop-at.at + 1) c.args.text.now) = prefix_len-drop_yes is_digit c.args.text.now c.loop-at.at 0 (omega arith) some in
    record {
      same = omega arith;
      number = c.with_digit-value.ensures ∙ ap (λ v. with_digit v (get_or c.args.text.now c.loop-at.at 0)) c.loop-at.invariant.number ∙ sym (digits_more c.args.number c.args.text.now c.args.from c.loop-at.at (omega arith) (omega arith));
      forward = omega arith;
      within = omega arith;
    }

pub returns-else-is_digit-clause-end : goal.returns-else-is_digit-clause-end
unfolding digits_end
returns-else-is_digit-clause-end c =
    let other : is_digit (get_or c.args.text.now c.loop-at.at 0) ≡ false = sym c.is_digit.ensures ∙ c.if-is_digit.false in
    let none : prefix_len is_digit (drop c.loop-at.at c.args.text.now) ≡ 0 = prefix_len-drop_no is_digit c.args.text.now c.loop-at.at 0 (omega arith) other in
    omega arith

pub returns-after-loop-at-clause-end : goal.returns-after-loop-at-clause-end
unfolding digits_end
returns-after-loop-at-clause-end c = omega arith
