use Rattle.qd_slots.proofs.HoldLaws.{holding-new}
use Rattle.qd_slots.proofs.holds.Holds.new.Goals as goal

pub invariant_of-result : goal.invariant_of-result
invariant_of-result c = holding-new c.new.result.items c.in_ok-orders.orders.items c.new.ensures.items c.in_ok-orders.ensures
