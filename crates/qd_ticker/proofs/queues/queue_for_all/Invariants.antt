use Rattle.std.proofs.Common.{◌≡◌, ◌≤◌, ◌<◌, ℕ, ◌-◌, true, vec_len}
use Rattle.qd_slots.specs.Holds.{is_subscribed}
use Rattle.qd_table.specs.Tables.{hold_for}
use Rattle.qd_ticker.proofs.SoundLaws.{QueuedBelow}
use Rattle.qd_ticker.proofs.queues.queue_for_all.Given as goal

abbrev pub invariant-loop-agent : goal.invariant-loop-agent
invariant-loop-agent l = record {
  few : l.from ≤ 128;
  len : vec_len l.queues ≡ vec_len l.initial.queues;
  some : 0 < l.from → (a : ℕ) × (a < 128) × (is_subscribed (hold_for l.table a l.slot) ≡ true);
  queues : QueuedBelow l.table l.slot l.from l.initial.queues.items l.queues.items;
}

abbrev pub decreases-loop-agent : goal.decreases-loop-agent
decreases-loop-agent l = 128 - l.from
