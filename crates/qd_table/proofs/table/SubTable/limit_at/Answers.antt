use Rattle.std.proofs.Common.{◌≤◌, ◌∙◌, ap, sym, arith, length}
use Rattle.qd_slots.specs.Holds.{cell_at, limit_in}
use Rattle.qd_table.proofs.Shown.{tell-limit, past-limit}
use Rattle.qd_table.proofs.table.SubTable.limit_at.Goals as goal

pub returns-then-slot-slots : goal.returns-then-slot-slots
returns-then-slot-slots c =
    let l : length c.self.inside.names.names ≤ c.args.slot = let e = c.slots.ensures.slots in let t = c.if-slot-slots.true in omega arith in
    sym (past-limit c.self.invariant.0 c.self.view_is c.args.agent c.args.slot l)

pub returns : goal.returns
returns c = tell-limit c.self.invariant.0 c.self.view_is c.args.agent c.args.slot c.limit_of.result (c.limit_of.ensures ∙ ap (limit_in (cell_at c.self.inside.holds.cells c.args.slot)) c.get.ensures.value)
