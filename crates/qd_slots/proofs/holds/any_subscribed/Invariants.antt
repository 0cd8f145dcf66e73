use Rattle.std.proofs.Common.{◌≡◌, drop}
use Rattle.std.specs.List.{list_any}
use Rattle.qd_slots.specs.Holds.{is_subscribed}
use Rattle.qd_slots.proofs.holds.any_subscribed.Given as goal

abbrev pub invariant-loop-hold : goal.invariant-loop-hold
invariant-loop-hold l = list_any is_subscribed l.holds ≡ list_any is_subscribed (drop l.hold-index l.holds)
