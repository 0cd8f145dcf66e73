use Rattle.std.proofs.Common.{◌≡◌, ℕ, ◌<◌, ◌≤◌, vec_len}
use Rattle.qd_slots.specs.Views.{viewing_at, with_total}
use Rattle.qd_slots.proofs.watchers.see_all.Given as goal

abbrev pub invariant-loop-watcher : goal.invariant-loop-watcher
invariant-loop-watcher l = record {
  len : vec_len l.watchers ≡ 8;
  done : (w : ℕ) → w < l.watcher → viewing_at l.watchers.items w ≡ with_total (viewing_at l.initial.watchers.items w) l.slot l.total;
  rest : (w : ℕ) → l.watcher ≤ w → viewing_at l.watchers.items w ≡ viewing_at l.initial.watchers.items w;
}
