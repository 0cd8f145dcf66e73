use Rattle.std.proofs.Common.{◌≡◌, ◌<◌, ℕ, length, take, slice_index}
use Rattle.qd_buffer.specs.Splitting.{of_stripe}
use Rattle.qd_buffer.proofs.split.counts_of.Given as goal

abbrev pub invariant-loop-item : goal.invariant-loop-item
invariant-loop-item g l = record {
  count : length l.counts ≡ 16;
  each : (i : ℕ) → i < l.n → slice_index l.counts i ≡ length (of_stripe g.T.Keyed.key_of l.n i (take l.item-index l.items));
}
