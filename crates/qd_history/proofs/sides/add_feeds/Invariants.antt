use Rattle.std.proofs.Common.{◌≡◌, ◌≤◌, ℕ, length}
use Rattle.std.specs.List.{sum_by}
use Rattle.qd_history.specs.Sides.{feed_now, owed_count}
use Rattle.qd_history.proofs.sides.add_feeds.Given as goal

abbrev pub invariant-loop-slot : goal.invariant-loop-slot
invariant-loop-slot l = record {
  same : (i : ℕ) → feed_now l.feeds.items i ≡ feed_now l.initial.feeds.items i;
  owed : sum_by owed_count l.feeds.items ≡ sum_by owed_count l.initial.feeds.items;
  kept : length l.initial.feeds.items ≤ length l.feeds.items;
  more : l._slot ≤ length l.feeds.items;
}
