use Rattle.qd_table.proofs.CellLaws.{some-within, some-named}
use Rattle.qd_table.proofs.Shown.{tell-slot}
use Rattle.qd_table.proofs.table.SubTable.slot_of.Goals as goal

pub returns-clause-slot : goal.returns-clause-slot
returns-clause-slot c = tell-slot c.self.invariant.0 c.self.view_is c.args.key.now c.slot_of.result c.slot_of.ensures.slot

pub returns-clause-within : goal.returns-clause-within
returns-clause-within c = some-within c.args.self.now c.args.key.now c.slot_of.result (tell-slot c.self.invariant.0 c.self.view_is c.args.key.now c.slot_of.result c.slot_of.ensures.slot)

pub returns-clause-named : goal.returns-clause-named
returns-clause-named c = some-named c.args.self.now c.args.key.now c.slot_of.result (tell-slot c.self.invariant.0 c.self.view_is c.args.key.now c.slot_of.result c.slot_of.ensures.slot)
