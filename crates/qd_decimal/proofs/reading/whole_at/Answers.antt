use Rattle.std.proofs.Common.{◌≡◌, ◌+◌, ◌<◌, ◌≤◌, ◌∙◌, sym, ap, arith}
use Rattle.std.specs.Prelude.{Ok}
use Rattle.qd_decimal.specs.Reading.{digits_end}
use Rattle.qd_decimal.proofs.OnePass.{run_end, whole_none, whole_stops, whole_good}
use Rattle.qd_decimal.proofs.reading.whole_at.Goals as goal
use Rattle.qd_decimal.proofs.reading.whole_at.Goals.{then-whole-from-via-then-whole-from, then-whole-from-via-else-whole-from+then-whole-text}

pub returns-then-whole-from : goal.returns-then-whole-from
returns-then-whole-from c =
    let ends : c.run_of-whole.result.end ≡ digits_end c.args.text.now c.args.from = run_end c.args.text.now c.args.from c.run_of-whole.result.end c.requires.within c.run_of-whole.ensures.end in
    elim c.then-whole-from.branch [
      | then-whole-from-via-then-whole-from w ↦ sym (whole_none c.args.text.now c.args.from c.run_of-whole.result.end ends (omega arith))
      | then-whole-from-via-else-whole-from+then-whole-text w ↦ sym (whole_stops c.args.text.now c.args.from c.run_of-whole.result.end ends w.if-whole-from.false (omega arith))
    ]

pub returns : goal.returns
returns c =
    let ends : c.run_of-whole.result.end ≡ digits_end c.args.text.now c.args.from = run_end c.args.text.now c.args.from c.run_of-whole.result.end c.requires.within c.run_of-whole.ensures.end in
    ap (λ v. Ok v) c.run_of-whole.ensures.number ∙ sym (whole_good c.args.text.now c.args.from c.run_of-whole.result.end ends c.if-whole-from.false (omega arith))
