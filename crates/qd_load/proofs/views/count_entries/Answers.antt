use Rattle.std.proofs.Common.{refl, arith}
use Rattle.qd_load.specs.Counting.{entries_of}
use Rattle.qd_load.proofs.Lists.{all_summed}
use Rattle.qd_load.proofs.views.count_entries.Goals as goal

pub returns : goal.returns
returns c = let no = c.loop-shelf-test.false in let end = c.loop-shelf.auto.shelf-index-end in all_summed entries_of c.loop-shelf.all c.loop-shelf.shelf-index c.args.shelves.now refl c.loop-shelf.invariant.0 c.loop-shelf.invariant.1 (omega (arith, no, end))
