use Rattle.qd_check.proofs.Gathering.{written_out}
use Rattle.qd_check.proofs.print.write_out.Goals as goal

pub returns-clause-prints : goal.returns-clause-prints
returns-clause-prints g c = written_out _ c.args.gathered.now c.args.out.now _ _ _ _ _ _ _ _ _ _ c.clear.ensures (rw c.bytes.ensures at c.if-not-print.ensures.prints) c.drain.ensures.drains
