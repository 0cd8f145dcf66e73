use Rattle.std.proofs.Common.{◌≡◌, ◌≤◌, ◌+◌, drop}
use Rattle.qd_history.specs.Rooms.{wanted_count}
use Rattle.qd_history.proofs.rooms.wanted_count.Given as goal

abbrev pub invariant-loop-e : goal.invariant-loop-e
invariant-loop-e l = record {
  count : l.count + wanted_count l.table (drop l.e-index l.items) ≡ wanted_count l.table l.items;
  few : l.count ≤ l.e-index;
}
