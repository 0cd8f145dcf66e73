use Rattle.std.proofs.Common.{◌≡◌, drop}
use Rattle.std.specs.List.{list_any}
use Rattle.qd_slots.specs.Holds.{is_held}
use Rattle.qd_slots.proofs.holds.any_held.Given as goal

abbrev pub invariant-loop-hold : goal.invariant-loop-hold
invariant-loop-hold l = list_any is_held l.holds ≡ list_any is_held (drop l.hold-index l.holds)
