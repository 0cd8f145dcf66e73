use Rattle.std.proofs.Common.{◌≡◌, ◌≤◌, ◌+◌, ◌-◌, ◌^◌, drop}
use Rattle.qd_load.specs.Counting.{NoneMissed, entries_in, stopped}
use Rattle.qd_load.proofs.views.entries_in.Given as goal

abbrev pub invariant-loop-view : goal.invariant-loop-view
invariant-loop-view l = (stopped (l.all + entries_in (drop l.view-index l.views)) ≡ stopped (entries_in l.views)) × (l.all ≤ 2 ^ 64 - 1) × (NoneMissed (drop l.view-index l.views) → NoneMissed l.views)
