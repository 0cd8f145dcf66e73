use Rattle.std.proofs.Common.{refl, arith}
use Rattle.qd_load.specs.Given.{lost_in}
use Rattle.qd_load.proofs.Lists.{all_summed}
use Rattle.qd_load.proofs.counts.lost_in.Goals as goal

pub returns : goal.returns
returns c = let no = c.loop-item-test.false in let end = c.loop-item.auto.item-index-end in all_summed lost_in c.loop-item.count c.loop-item.item-index c.args.items.now refl c.loop-item.invariant.0 c.loop-item.invariant.1 (omega (arith, no, end))
