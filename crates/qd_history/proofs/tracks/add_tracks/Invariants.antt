use Rattle.std.proofs.Common.{◌≡◌, ◌≤◌, ℕ, length, max}
use Rattle.std.specs.List.{sum_by}
use Rattle.qd_history.specs.Tracks.{track_at, track_size, IsSameTrack}
use Rattle.qd_history.proofs.tracks.add_tracks.Given as goal

abbrev pub invariant-loop-slot : goal.invariant-loop-slot
invariant-loop-slot l = record {
  same : (i : ℕ) → IsSameTrack (track_at l.initial.list.items i) (track_at l.list.items i);
  stock : sum_by track_size l.list.items ≡ sum_by track_size l.initial.list.items;
  kept : length l.initial.list.items ≤ length l.list.items;
  len : length l.list.items ≡ l._slot;
  bound : l._slot ≤ max (length l.initial.list.items) l.slots;
}
