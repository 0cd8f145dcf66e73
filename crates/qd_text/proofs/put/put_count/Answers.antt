use Rattle.std.proofs.Common.{decimal, ◌∷◌, arith}
use Rattle.qd_text.proofs.Lengths.{either_short, count_short}
use Rattle.qd_text.proofs.put.put_count.Goals as goal

pub returns-clause-short : goal.returns-clause-short
returns-clause-short c = either_short c.write_count_part.result c.args.out.now (9 ∷ decimal c.args.n) c.write_count_part.new.out 21 c.write_count_part.ensures.appended (omega (arith, count_short c.args.n (omega arith)))
