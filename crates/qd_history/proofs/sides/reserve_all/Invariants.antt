use Rattle.std.proofs.Common.{◌≡◌, ◌≤◌, ◌<◌, ◌-◌, ℕ, true}
use Rattle.qd_slots.specs.Holds.{is_subscribed}
use Rattle.qd_table.specs.Tables.{hold_for}
use Rattle.qd_history.specs.Sides.{sided_at, spared_at, IsReserved}
use Rattle.qd_history.specs.Rooms.{KeepsOtherFeeds}
use Rattle.qd_history.proofs.sides.reserve_all.Given as goal

abbrev pub invariant-loop-agent : goal.invariant-loop-agent
invariant-loop-agent l = record {
  few : l.from ≤ 128;
  kept : KeepsOtherFeeds l.slot l.initial.sides.items l.sides.items;
  done : (a : ℕ) → a < l.from → is_subscribed (hold_for l.table a l.slot) ≡ true → IsReserved (spared_at (sided_at l.sides.items a) l.slot) l.events;
}

abbrev pub decreases-loop-agent : goal.decreases-loop-agent
decreases-loop-agent l = 128 - l.from
