use Rattle.std.proofs.Common.{rules, ◌∙◌}
use Rattle.qd_buffer.proofs.Cutting.{IsFilling-start}
use Rattle.qd_buffer.proofs.split.split_by_stripe.Goals as goal

pub fill-requires-clause-before : goal.fill-requires-clause-before
fill-requires-clause-before g c = IsFilling-start g.T.Keyed.key_of c.args.n c.args.items.now c.counts_of-counts.result c.as_mut_slice.result.now (search rules) c.counts_of-counts.ensures (c.as_mut_slice.ensures.value ∙ rw (← c.from.ensures) c.in-Ok.ensures)
