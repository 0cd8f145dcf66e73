use Rattle.std.proofs.Common.{arith}
use Rattle.qd_decimal.proofs.Fractions.{count_short}
use Rattle.qd_decimal.proofs.writing.write_magnitude.Goals as goal

pub write_digits-requires : goal.write_digits-requires
write_digits-requires c = (omega (arith, count_short c.cut_before-cut.result.front (omega arith)), omega arith)

pub returns-clause-room : goal.returns-clause-room
returns-clause-room c = omega (arith, c.write_digits.ensures.start, count_short c.cut_before-cut.result.front (omega arith))
