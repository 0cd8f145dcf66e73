use Rattle.std.proofs.Common.{◌∙◌, sym}
use Rattle.qd_table.proofs.Shown.{cell-of, keyed-slot}
use Rattle.qd_table.proofs.StoreShown.{want-none, want-some}
use Rattle.qd_table.proofs.table.SubTable.want_at.Goals as goal

pub returns-in-None : goal.returns-in-None
returns-in-None c = want-none c.self.invariant.0 c.self.view_is c.args.watcher c.args.slot (sym c.in-None.is ∙ c.name_at.ensures)

pub returns-in-Some : goal.returns-in-Some
returns-in-Some c = want-some c.self.invariant.0 c.self.view_is c.get.result c.args.watcher c.args.slot c.in-Some.key c.view_of-view.result c.total_of.result c.to_tell-total.result c.get.ensures.value (sym c.in-Some.is ∙ c.name_at.ensures)
    (cell-of c.self.invariant.0 c.args.slot (keyed-slot c.self.invariant.0 c.args.slot c.in-Some.key (sym c.name_at.ensures ∙ c.in-Some.is))) c.view_of-view.ensures c.total_of.ensures c.to_tell-total.ensures
