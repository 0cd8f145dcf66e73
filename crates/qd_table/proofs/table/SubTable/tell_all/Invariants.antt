use Rattle.std.proofs.Common.{◌-◌, ◌≤◌, length, take}
use Rattle.qd_table.specs.Tables.{Table, queue_of}
use Rattle.qd_table.specs.Steps.{TellsAll}
use Rattle.qd_table.proofs.table.SubTable.tell_all.Given as goal

abbrev pub invariant-loop-i : goal.invariant-loop-i
invariant-loop-i l = record {
  chain : (t : Table) → TellsAll l.self l.watcher (take (l.count - l._i) (queue_of l.self l.watcher)) t → TellsAll l.initial.self l.watcher (take l.count (queue_of l.initial.self l.watcher)) t;
  room : l.count - l._i ≤ length (queue_of l.self l.watcher);
}
