use Rattle.std.proofs.Common.{refl, sum, arith}
use Rattle.qd_load.proofs.Lists.{all_summed}
use Rattle.qd_load.proofs.counts.total.Goals as goal

pub returns : goal.returns
returns c = let no = c.loop-count-test.false in let end = c.loop-count.auto.count-index-end in all_summed sum c.loop-count.all c.loop-count.count-index c.args.counts.now refl c.loop-count.invariant.0 c.loop-count.invariant.1 (omega (arith, no, end))
