use Rattle.qd_slots.proofs.HoldLaws.{orders-more}
use Rattle.qd_slots.proofs.holds.empty_orders.Goals as goal

pub loop-agent-preserved : goal.loop-agent-preserved
loop-agent-preserved c = orders-more c.loop-agent.orders.items c.push.new.self.items c.loop-agent._agent c.in_ok-new.field-0 c.loop-agent.invariant c.in_ok-push.ensures.items c.in_ok-new.ensures
