use Rattle.std.proofs.Common.{◌≡◌, ◌+◌, ◌-◌, ◌*◌, ◌<◌, ◌≤◌, ◌∙◌, sym, ap, arith, drop, get_or, true}
use Rattle.std.specs.Prelude.{Some}
use Rattle.std.specs.List.{prefix_len}
use Rattle.std.proofs.lemmas.List.Sums.{prefix_len-drop_yes}
use Rattle.qd_decimal.specs.Grammar.{is_digit}
use Rattle.qd_decimal.specs.Numbers.{with_digit}
use Rattle.qd_decimal.proofs.Ends.{digits_more, digit_fits}
use Rattle.qd_decimal.proofs.digits.start_of_run.Goals as goal

pub loop-at-preserved : goal.loop-at-preserved
loop-at-preserved c =
    let some : is_digit (get_or c.args.text.now c.loop-at.at 0) ≡ true = sym c.is_digit.ensures ∙ c.if-is_digit.true in
    let more : prefix_len is_digit (drop c.loop-at.at c.args.text.now) ≡ 1 + prefix_len is_digit (drop (c.loop-at.at + 1) c.args.text.now) = prefix_len-drop_yes is_digit c.args.text.now c.loop-at.at 0 (omega arith) some in
    record {
      same = omega arith;
      number =
          digits_more (Some c.args.number) c.args.text.now c.args.from c.loop-at.at (omega arith) (omega arith)
          ∙ ap (λ v. with_digit v (get_or c.args.text.now c.loop-at.at 0)) c.loop-at.invariant.number
          ∙ digit_fits c.loop-at.value (get_or c.args.text.now c.loop-at.at 0) c.if-value-le-ROOM.true some
          ∙ ap (λ n. Some (c.loop-at.value * 10 + n)) (sym c.from.ensures);
      forward = omega arith;
      within = omega arith;
    }
