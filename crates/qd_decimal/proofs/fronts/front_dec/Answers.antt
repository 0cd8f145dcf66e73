use Rattle.std.proofs.Common.{arith, refl, sym, ◌∙◌, ◌-◌, ◌+◌}
use Rattle.qd_decimal.proofs.AtFront.{whole_told, fraction_told}
use Rattle.qd_decimal.proofs.FewDigits.{few_first, few_then, few_whole, few_part}
use Rattle.qd_decimal.proofs.fronts.front_dec.Goals as goal

pub returns-then-ends_part : goal.returns-then-ends_part
returns-then-ends_part c = whole_told c.args.text.now c.from-start.result c.short_run-whole.result.end c.short_run-whole.result.number c.has_minus-negative.result c.front_of.result c.from-start.ensures c.has_minus-negative.ensures c.if-whole-start.false c.short_run-whole.ensures.forward (omega arith) c.short_run-whole.ensures.digits c.short_run-whole.ensures.number c.args.scale c.if-ends_part.ensures c.front_of.ensures

pub returns : goal.returns
returns c = fraction_told c.args.text.now c.from-start.result c.short_run-whole.result.end c.short_run-whole.result.number c.has_minus-negative.result c.front_of-2.result c.from-start.ensures c.has_minus-negative.ensures c.if-whole-start.false c.short_run-whole.ensures.forward (omega arith) c.short_run-whole.ensures.digits c.short_run-whole.ensures.number c.args.scale c.short_run-part.result.end c.short_run-part.result.number c.min-kept.result (c.args.scale - (c.short_run-part.result.end - (c.short_run-whole.result.end + 1))) (sym c.if-ends_part.false ∙ c.ends_part.ensures) c.if-text-whole-ne46.false (omega arith) (omega arith) (omega arith) (omega arith) c.short_run-part.ensures.digits c.short_run-part.ensures.number refl (sym c.if-not-ends_part.false ∙ c.ends_part-2.ensures) c.front_of-2.ensures

pub short_run-whole-requires-clause-few : goal.short_run-whole-requires-clause-few
short_run-whole-requires-clause-few c = few_first (c.min-most.result - c.from-start.result) (omega (arith, c.min-most.ensures))

pub short_run-part-requires-clause-few : goal.short_run-part-requires-clause-few
short_run-part-requires-clause-few c = few_then c.short_run-whole.result.number (c.short_run-whole.result.end - c.from-start.result) (c.min-kept.result - (c.short_run-whole.result.end + 1)) c.short_run-whole.ensures.few (omega arith)

pub front_of-requires-clause-small : goal.front_of-requires-clause-small
front_of-requires-clause-small c = few_whole c.short_run-whole.result.number c.args.scale (few_then c.short_run-whole.result.number (c.short_run-whole.result.end - c.from-start.result) c.args.scale c.short_run-whole.ensures.few (omega arith))

pub front_of-requires-2-clause-small : goal.front_of-requires-2-clause-small
front_of-requires-2-clause-small c = few_part c.short_run-whole.result.number c.short_run-part.result.number (c.short_run-part.result.end - (c.short_run-whole.result.end + 1)) (c.args.scale - (c.short_run-part.result.end - (c.short_run-whole.result.end + 1))) c.short_run-part.ensures.few (few_then c.short_run-whole.result.number (c.short_run-whole.result.end - c.from-start.result) ((c.short_run-part.result.end - (c.short_run-whole.result.end + 1)) + (c.args.scale - (c.short_run-part.result.end - (c.short_run-whole.result.end + 1)))) c.short_run-whole.ensures.few (omega arith))
