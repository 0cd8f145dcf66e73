use Rattle.std.proofs.Common.{◌∙◌, sym}
use Rattle.qd_table.proofs.KeyCalls.{bit-yes, bit-no}
use Rattle.qd_table.proofs.table.SubTable.agent_bit.Goals as goal

pub returns-then-is_subscribed : goal.returns-then-is_subscribed
returns-then-is_subscribed c = bit-yes c.args.self.now c.args.slot c.args.agent c.in-Some.agent c.in-Some.ensures.value (sym c.is_subscribed.ensures ∙ c.if-is_subscribed.true)

pub returns-else-is_subscribed : goal.returns-else-is_subscribed
returns-else-is_subscribed c = bit-no c.args.self.now c.args.slot c.args.agent c.in-Some.agent c.in-Some.ensures.value (sym c.is_subscribed.ensures ∙ c.if-is_subscribed.false)
