use Rattle.std.proofs.Common.{◌≡◌, length}
use Rattle.std.specs.List.{AllByRecursion}
use Rattle.qd_load.proofs.counts.no_counts.Given as goal

abbrev pub invariant-loop : goal.invariant-loop
invariant-loop l = (length l.counts.items ≡ l.counter) × AllByRecursion (λ c. c ≡ 0) l.counts.items
