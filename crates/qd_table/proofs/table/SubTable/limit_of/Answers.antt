use Rattle.std.proofs.Common.{◌∙◌, sym}
use Rattle.qd_table.proofs.KeyCalls.{limit-none, limit-some}
use Rattle.qd_table.proofs.table.SubTable.limit_of.Goals as goal

pub returns-in-None : goal.returns-in-None
returns-in-None c = limit-none c.args.self.now c.args.agent c.args.key.now (sym c.in-None.ensures.slot)

pub returns-in-Some : goal.returns-in-Some
returns-in-Some c = c.limit_at.ensures ∙ limit-some c.args.self.now c.args.agent c.args.key.now c.in-Some.slot (sym c.in-Some.ensures.slot)
