use Rattle.qd_table.proofs.Shown.{tell-slots, tell-sound}
use Rattle.qd_table.proofs.table.SubTable.slots.Goals as goal

pub returns-clause-slots : goal.returns-clause-slots
returns-clause-slots c = tell-slots c.self.invariant.0 c.self.view_is c.slots.result c.slots.ensures.slots

pub returns-clause-sound : goal.returns-clause-sound
returns-clause-sound c = tell-sound c.self.invariant.0 c.self.view_is
