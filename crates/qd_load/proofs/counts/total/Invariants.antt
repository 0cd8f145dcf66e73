use Rattle.std.proofs.Common.{◌≡◌, ◌≤◌, ◌+◌, ◌-◌, ◌^◌, drop, sum}
use Rattle.qd_load.specs.Counting.{stopped}
use Rattle.qd_load.proofs.counts.total.Given as goal

abbrev pub invariant-loop-count : goal.invariant-loop-count
invariant-loop-count l = (stopped (l.all + sum (drop l.count-index l.counts)) ≡ stopped (sum l.counts)) × (l.all ≤ 2 ^ 64 - 1)
