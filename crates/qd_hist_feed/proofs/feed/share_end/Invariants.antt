use Rattle.std.proofs.Common.{◌≡◌, ◌+◌, drop}
use Rattle.std.specs.Prelude.{if◌then◌else◌}
use Rattle.qd_hist_feed.specs.Feeding.{has_above, end_of}
use Rattle.qd_hist_feed.proofs.feed.share_end.Given as goal

abbrev pub invariant-loop-i : goal.invariant-loop-i
invariant-loop-i l = end_of l.floor l.batch ≡ (if has_above l.floor (drop l.i l.batch) then l.i + end_of l.floor (drop l.i l.batch) else l.end)
