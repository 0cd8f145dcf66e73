use Rattle.std.proofs.Common.{◌∙◌, sym}
use Rattle.qd_table.proofs.KeyCalls.{bits-none, bits-some}
use Rattle.qd_table.proofs.BitLaws.{bits-subscribed}
use Rattle.qd_table.proofs.table.SubTable.agents_of.Goals as goal

pub returns-in-None-clause-bits : goal.returns-in-None-clause-bits
returns-in-None-clause-bits c = bits-none c.args.self.now c.args.key.now (sym c.in-None.ensures.slot)

pub returns-in-None-clause-subscribed : goal.returns-in-None-clause-subscribed
returns-in-None-clause-subscribed c keeps now = bits-subscribed c.args.self.now c.args.key.now 0 keeps now (bits-none c.args.self.now c.args.key.now (sym c.in-None.ensures.slot))

pub returns-in-Some-clause-bits : goal.returns-in-Some-clause-bits
returns-in-Some-clause-bits c = c.agent_bits.ensures ∙ bits-some c.args.self.now c.args.key.now c.in-Some.slot (sym c.in-Some.ensures.slot)

pub returns-in-Some-clause-subscribed : goal.returns-in-Some-clause-subscribed
returns-in-Some-clause-subscribed c keeps now = bits-subscribed c.args.self.now c.args.key.now c.agent_bits.result keeps now (c.agent_bits.ensures ∙ bits-some c.args.self.now c.args.key.now c.in-Some.slot (sym c.in-Some.ensures.slot))
