use Rattle.std.proofs.Common.{arith, refl, ◌∙◌}
use Rattle.qd_ticker.proofs.SoundLaws.{queue-found, queue-none, queue-next, queue-all}
use Rattle.qd_ticker.proofs.queues.queue_for_all.Goals as goal

pub loop-agent-init : goal.loop-agent-init
loop-agent-init c = record {
  few = omega arith;
  len = refl;
  some = λ h. absurd (omega arith);
  queues = queue-none c.args.table.now c.args.slot c.args.queues.now.items;
}

pub loop-agent-preserved : goal.loop-agent-preserved
loop-agent-preserved c = record {
  few = omega (arith, c.in-Some.ensures.next.within);
  len = c.queue_slot.ensures.len ∙ c.loop-agent.invariant.len;
  some = λ h. (c.in-Some.agent, c.in-Some.ensures.next.within, c.in-Some.ensures.next.subscribed);
  queues = queue-next c.args.table.now c.args.slot c.loop-agent.from c.in-Some.agent c.args.queues.now.items c.loop-agent.queues.items c.queue_slot.new.queues.items c.in-Some.ensures.next (omega (arith, c.in-Some.ensures.next.within)) c.queue_slot.ensures.items c.loop-agent.invariant.queues;
}

pub returns-clause-found : goal.returns-clause-found
returns-clause-found c = queue-found c.args.table.now c.args.slot c.loop-agent.from c.loop-agent.invariant.some c.in_default.ensures.none

pub returns-clause-queues : goal.returns-clause-queues
returns-clause-queues c = queue-all c.args.table.now c.args.slot c.loop-agent.from c.args.queues.now.items c.loop-agent.queues.items c.in_default.ensures.none c.loop-agent.invariant.queues
