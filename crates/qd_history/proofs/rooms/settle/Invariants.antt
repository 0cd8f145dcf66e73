use Rattle.std.proofs.Common.{◌≡◌, ◌<◌, ◌⊎◌, ℕ, drop, vec_len}
use Rattle.qd_history.specs.Rooms.{count_at, tally_at}
use Rattle.qd_history.proofs.rooms.settle.Given as goal

abbrev pub invariant-loop-e : goal.invariant-loop-e
invariant-loop-e l = record {
  zero : (slot : ℕ) → 0 < count_at l.table slot l.items → (tally_at l.tally.items slot ≡ 0) ⊎ (0 < count_at l.table slot (drop l.e-index l.items));
  len : vec_len l.tally ≡ vec_len l.initial.tally;
}
