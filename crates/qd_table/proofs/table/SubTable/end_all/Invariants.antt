use Rattle.std.proofs.Common.{length}
use Rattle.qd_table.specs.Tables.{Table, order_of}
use Rattle.qd_table.specs.Steps.{EndsAll}
use Rattle.qd_table.proofs.table.SubTable.end_all.Given as goal

abbrev pub invariant-loop-slot : goal.invariant-loop-slot
invariant-loop-slot l = (t : Table) → EndsAll l.self l.agent (order_of l.self l.agent) t → EndsAll l.initial.self l.agent (order_of l.initial.self l.agent) t

abbrev pub decreases-loop-slot : goal.decreases-loop-slot
decreases-loop-slot l = length (order_of l.self l.agent)
