use Rattle.std.proofs.Common.{◌≡◌, ℕ, ◌<◌, ◌≤◌, length, vec_len}
use Rattle.qd_slots.specs.Views.{viewing_at, IsWider}
use Rattle.qd_slots.proofs.watchers.reserve_all.Given as goal

abbrev pub invariant-loop-watcher : goal.invariant-loop-watcher
invariant-loop-watcher l = record {
  len : vec_len l.watchers ≡ 8;
  wider : (w : ℕ) → w < 8 → IsWider (viewing_at l.initial.watchers.items w) (viewing_at l.watchers.items w);
  done : (w : ℕ) → w < l.watcher → (l.slots ≤ length (viewing_at l.watchers.items w).views) × (l.slots ≤ (viewing_at l.watchers.items w).queue.slots);
}
