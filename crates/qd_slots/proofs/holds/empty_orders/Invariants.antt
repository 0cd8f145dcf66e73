use Rattle.std.proofs.Common.{◌≡◌, replicate}
use Rattle.qd_slots.specs.Holds.{no_order}
use Rattle.qd_slots.proofs.holds.empty_orders.Given as goal

abbrev pub invariant-loop-agent : goal.invariant-loop-agent
invariant-loop-agent l = l.orders.items ≡ replicate l._agent no_order
