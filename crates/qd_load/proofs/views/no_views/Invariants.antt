use Rattle.std.proofs.Common.{◌≡◌, [], length}
use Rattle.std.specs.List.{AllByRecursion}
use Rattle.qd_load.specs.Counting.{IsFed}
use Rattle.qd_load.proofs.views.no_views.Given as goal

abbrev pub invariant-loop : goal.invariant-loop
invariant-loop l = (length l.views.items ≡ l.counter) × AllByRecursion (λ v. IsFed v []) l.views.items
