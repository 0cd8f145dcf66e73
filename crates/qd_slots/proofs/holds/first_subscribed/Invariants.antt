use Rattle.std.proofs.Common.{◌≡◌, drop}
use Rattle.qd_slots.specs.Holds.{subscribed_from}
use Rattle.qd_slots.proofs.holds.first_subscribed.Given as goal

abbrev pub invariant-loop-agent : goal.invariant-loop-agent
invariant-loop-agent l = subscribed_from l.from (drop l.from l.holds) ≡ subscribed_from l.agent (drop l.agent l.holds)
