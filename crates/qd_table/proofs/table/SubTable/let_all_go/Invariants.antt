use Rattle.qd_table.specs.Tables.{Table, slots_in}
use Rattle.qd_table.proofs.KeyCalls.{GoesOn, kept_count}
use Rattle.qd_table.proofs.table.SubTable.let_all_go.Given as goal

abbrev pub invariant-loop-slot : goal.invariant-loop-slot
invariant-loop-slot l = (t : Table) → GoesOn l.self l.agent t → GoesOn l.initial.self l.agent t

abbrev pub decreases-loop-slot : goal.decreases-loop-slot
decreases-loop-slot l = kept_count l.self l.agent (slots_in l.self)
