use Rattle.std.proofs.Common.{◌∙◌, sym}
use Rattle.qd_table.proofs.KeyCalls.{first-none, first-some}
use Rattle.qd_table.proofs.table.SubTable.first_of.Goals as goal

pub returns-in-None : goal.returns-in-None
returns-in-None c = first-none c.args.self.now c.args.agent (sym c.in-None.ensures.first)

pub returns-in-Some : goal.returns-in-Some
returns-in-Some c = c.key_at.ensures ∙ first-some c.args.self.now c.args.agent c.in-Some.slot (sym c.in-Some.ensures.first)
