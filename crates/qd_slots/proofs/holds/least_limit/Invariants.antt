use Rattle.std.proofs.Common.{◌≡◌, drop}
use Rattle.qd_sub.specs.Subscriptions.{least}
use Rattle.qd_slots.specs.Holds.{limits_of, lesser_of}
use Rattle.qd_slots.proofs.holds.least_limit.Given as goal

abbrev pub invariant-loop-i : goal.invariant-loop-i
invariant-loop-i l = least (limits_of l.holds l.limits) ≡ lesser_of l.best (least (limits_of (drop l.i l.holds) (drop l.i l.limits)))
