use Rattle.qd_table.proofs.Shown.{tell-key}
use Rattle.qd_table.proofs.table.SubTable.key_at.Goals as goal

pub returns : goal.returns
returns c = tell-key c.self.invariant.0 c.self.view_is c.args.slot c.name_at.result c.name_at.ensures
