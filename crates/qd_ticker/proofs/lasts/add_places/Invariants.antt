use Rattle.std.proofs.Common.{◌≡◌, ◌≤◌, ℕ, vec_len, vec_capacity}
use Rattle.qd_ticker.specs.Stripes.{last_at}
use Rattle.qd_ticker.proofs.lasts.add_places.Given as goal

abbrev pub invariant-loop-slot : goal.invariant-loop-slot
invariant-loop-slot l = record {
  same : (i : ℕ) → last_at l.lasts.items i ≡ last_at l.initial.lasts.items i;
  len : vec_len l.lasts ≡ l._slot;
  room : l.slots ≤ vec_capacity l.lasts;
}
