use Rattle.std.proofs.Common.{◌≡◌, ℕ, ◌≤◌, ◌∙◌, sym, ap, arith, min, slice_range}
use Rattle.std.specs.Prelude.{Option, Some}
use Rattle.qd_decimal.specs.Numbers.{with_digits}
use Rattle.qd_decimal.specs.Reading.{digits_end}
use Rattle.qd_decimal.proofs.Places.{end_from}
use Rattle.qd_decimal.proofs.Ends.{digits_on, digits_joined}
use Rattle.qd_decimal.proofs.digits.run_of.Goals as goal

pub returns-in-Some-clause-end : goal.returns-in-Some-clause-end
returns-in-Some-clause-end c =
    let on : digits_end c.args.text.now c.start_of_run-start.result.end ≡ digits_end c.args.text.now c.args.from = digits_on c.args.text.now c.args.from c.start_of_run-start.result.end c.start_of_run-start.ensures.forward c.start_of_run-start.ensures.digits in
    c.rest_of_run.ensures.end ∙ ap (λ n. min n c.args.to) on

pub returns-in-Some-clause-number : goal.returns-in-Some-clause-number
returns-in-Some-clause-number c =
    let on : c.start_of_run-start.result.end ≤ digits_end c.args.text.now c.start_of_run-start.result.end = end_from c.args.text.now c.start_of_run-start.result.end in
    c.rest_of_run.ensures.number
    ∙ digits_joined (Some c.in-Some.n) (Some c.start_of_run-start.result.number) c.args.text.now c.args.from c.start_of_run-start.result.end c.rest_of_run.result.end c.start_of_run-start.ensures.forward (omega arith) c.start_of_run-start.ensures.number
    ∙ ap (λ (v : Option ℕ). with_digits v (slice_range c.args.text.now c.args.from c.rest_of_run.result.end)) (sym c.in-Some.is)
