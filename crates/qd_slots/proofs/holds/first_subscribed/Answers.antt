use Rattle.std.proofs.Common.{◌∙◌, sym, ap, arith, add-one, drop}
use Rattle.qd_slots.specs.Holds.{subscribed_from}
use Rattle.qd_slots.proofs.HoldLaws.{from-yes, from-no, from-end}
use Rattle.qd_slots.proofs.holds.first_subscribed.Goals as goal

pub returns-then-is_subscribed : goal.returns-then-is_subscribed
returns-then-is_subscribed c = sym (c.loop-agent.invariant ∙ from-yes c.args.holds.now c.loop-agent.agent c.loop-agent.agent (omega arith) (sym c.is_subscribed.ensures ∙ c.if-is_subscribed.true))

pub loop-agent-preserved : goal.loop-agent-preserved
loop-agent-preserved c =
    c.loop-agent.invariant ∙ from-no c.args.holds.now c.loop-agent.agent c.loop-agent.agent (omega arith) (sym c.is_subscribed.ensures ∙ c.if-is_subscribed.false)
    ∙ ap (λ n. subscribed_from n (drop n c.args.holds.now)) (sym (add-one c.loop-agent.agent))

pub returns : goal.returns
returns c = sym (c.loop-agent.invariant ∙ from-end c.args.holds.now c.loop-agent.agent c.loop-agent.agent (omega arith))
