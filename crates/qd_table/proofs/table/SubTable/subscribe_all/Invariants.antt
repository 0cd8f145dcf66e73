use Rattle.std.proofs.Common.{◌-◌, ◌≤◌, length, drop}
use Rattle.qd_table.specs.Tables.{Table, room_for}
use Rattle.qd_table.specs.Steps.{SubscribesAll}
use Rattle.qd_table.proofs.table.SubTable.subscribe_all.Given as goal

abbrev pub invariant-loop-sub : goal.invariant-loop-sub
invariant-loop-sub l = record {
  chain : (t : Table) → SubscribesAll l.self l.agent (drop l.sub-index l.subs) t → SubscribesAll l.initial.self l.agent l.subs t;
  room : length l.subs - l.sub-index ≤ room_for l.self l.agent;
}
