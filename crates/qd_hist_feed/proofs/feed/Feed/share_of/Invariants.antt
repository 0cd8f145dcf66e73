use Rattle.std.proofs.Common.{◌≡◌, ℕ, ◌+◌, ◌≤◌, length, drop}
use Rattle.qd_hist_feed.specs.Feeding.{owed_items}
use Rattle.qd_hist_feed.proofs.feed.Feed.share_of.Given as goal

abbrev pub invariant-loop-e : goal.invariant-loop-e
invariant-loop-e l = record {
  counted : (number : ℕ) → l.count + length (owed_items l.self.now.stage l.floor number (drop l.e-index l.batch)) ≡ length (owed_items l.self.now.stage l.floor number l.batch);
  few : l.count ≤ l.e-index;
}
