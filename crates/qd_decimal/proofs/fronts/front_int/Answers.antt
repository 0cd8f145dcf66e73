use Rattle.std.proofs.Common.{arith, ◌-◌, sym, ◌∙◌}
use Rattle.qd_decimal.proofs.AtFront.{int_told}
use Rattle.qd_decimal.proofs.FewDigits.{few_first, few_then, few_whole}
use Rattle.qd_decimal.proofs.fronts.front_int.Goals as goal

pub returns : goal.returns
returns c = int_told c.args.text.now c.from-start.result c.short_run-whole.result.end c.short_run-whole.result.number c.has_minus-negative.result c.front_of.result c.from-start.ensures c.has_minus-negative.ensures c.if-whole-start.false c.short_run-whole.ensures.forward (omega arith) c.short_run-whole.ensures.digits c.short_run-whole.ensures.number (omega arith) (sym c.if-not-ends_part.false ∙ c.ends_part.ensures) c.front_of.ensures

pub short_run-whole-requires-clause-few : goal.short_run-whole-requires-clause-few
short_run-whole-requires-clause-few c = few_first (c.min-most.result - c.from-start.result) (omega (arith, c.min-most.ensures))

pub front_of-requires-clause-small : goal.front_of-requires-clause-small
front_of-requires-clause-small c = few_whole c.short_run-whole.result.number 0 (few_then c.short_run-whole.result.number (c.short_run-whole.result.end - c.from-start.result) 0 c.short_run-whole.ensures.few (omega arith))
