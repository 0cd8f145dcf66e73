use Rattle.std.proofs.Common.{◌≡◌, ◌-◌}
use Rattle.qd_table.specs.Tables.{bits_from}
use Rattle.qd_table.proofs.table.SubTable.agent_bits.Given as goal

abbrev pub invariant-loop-i : goal.invariant-loop-i
invariant-loop-i l = l.bits ≡ bits_from l.self l.slot (128 - l.i) l.i
