use Rattle.std.proofs.Common.{◌≡◌, take, drop}
use Rattle.std.specs.List.{filter_map}
use Rattle.qd_pend.specs.Slots.{first_in}
use Rattle.qd_table.specs.Tables.{queue_of, want_for}
use Rattle.qd_table.proofs.table.SubTable.gather.Given as goal

abbrev pub invariant-loop-i : goal.invariant-loop-i
invariant-loop-i l = record {
  items : l.out.items ≡ filter_map (want_for l.self l.watcher) (take l._i (queue_of l.self l.watcher));
  room : l.out.room ≡ l.initial.out.room;
  place : l.at ≡ first_in (drop l._i (queue_of l.self l.watcher));
}
