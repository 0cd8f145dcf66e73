use Rattle.std.proofs.Common.{decimal, arith}
use Rattle.qd_load.proofs.Telling.{either_short, count_short}
use Rattle.qd_load.proofs.load.put_count.Goals as goal

pub returns-clause-short : goal.returns-clause-short
returns-clause-short c = either_short c.write_count.result c.args.line.now (decimal c.args.n) c.write_count.new.out 20 c.write_count.ensures.appended (count_short c.args.n (omega arith))
