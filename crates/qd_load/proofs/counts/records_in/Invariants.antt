use Rattle.std.proofs.Common.{◌≡◌, ◌≤◌, ◌+◌, ◌-◌, ◌^◌, drop}
use Rattle.qd_load.specs.Counting.{stopped}
use Rattle.qd_load.specs.Given.{records_in}
use Rattle.qd_load.proofs.counts.records_in.Given as goal

abbrev pub invariant-loop-item : goal.invariant-loop-item
invariant-loop-item l = (stopped (l.count + records_in (drop l.item-index l.items)) ≡ stopped (records_in l.items)) × (l.count ≤ 2 ^ 64 - 1)
