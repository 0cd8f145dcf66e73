use Rattle.std.proofs.Common.{◌≡◌, ℕ, ◌-◌, ◌≤◌, ◌&&◌, length, nat_lt, if◌then◌else◌}
use Rattle.qd_slots.specs.Holds.{is_subscribed}
use Rattle.qd_table.specs.Tables.{hold_for}
use Rattle.qd_stream.specs.Outboxes.{with_waiting}
use Rattle.qd_stream.specs.Boxes.{box_at}
use Rattle.qd_stream.proofs.stripe.push_all.Given as goal

abbrev pub invariant-loop-agent : goal.invariant-loop-agent
invariant-loop-agent l = record {
  cap : l.boxes.cap ≡ l.initial.boxes.cap;
  agents : length l.boxes.list ≡ length l.initial.boxes.list;
  boxes : (a : ℕ) → box_at l.boxes a ≡ (if nat_lt a l.from && is_subscribed (hold_for l.table a l.slot) then with_waiting (box_at l.initial.boxes a) (record { slot = l.slot; item = l.item }) else box_at l.initial.boxes a);
  from : l.from ≤ 128;
}

abbrev pub decreases-loop-agent : goal.decreases-loop-agent
decreases-loop-agent l = 128 - l.from
