use Rattle.std.proofs.Common.{arith}
use Rattle.qd_load.proofs.Lists.{none_fed}
use Rattle.qd_load.proofs.views.no_views.Goals as goal

pub returns-clause-none : goal.returns-clause-none
returns-clause-none c = let no = c.loop-test.false in let end = c.loop.auto.counter-end in none_fed c.loop.views.items c.args.stripes c.loop.invariant.1 (let e = c.loop.invariant.0 in omega (arith, no, end, e))
