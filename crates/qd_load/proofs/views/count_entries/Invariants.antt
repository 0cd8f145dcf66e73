use Rattle.std.proofs.Common.{◌≡◌, ◌≤◌, ◌+◌, ◌-◌, ◌^◌, drop}
use Rattle.qd_load.specs.Counting.{entries_of, stopped}
use Rattle.qd_load.proofs.views.count_entries.Given as goal

abbrev pub invariant-loop-shelf : goal.invariant-loop-shelf
invariant-loop-shelf l = (stopped (l.all + entries_of (drop l.shelf-index l.shelves)) ≡ stopped (entries_of l.shelves)) × (l.all ≤ 2 ^ 64 - 1)
