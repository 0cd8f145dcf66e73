use Rattle.std.proofs.Common.{◌<◌, ◌≤◌, sym, arith, length}
use Rattle.qd_table.proofs.Shown.{tell-total, past-total, cell-of}
use Rattle.qd_table.proofs.table.SubTable.total_at.Goals as goal

pub returns-then-slot-slots : goal.returns-then-slot-slots
returns-then-slot-slots c =
    let l : length c.self.inside.names.names ≤ c.args.slot = let e = c.slots.ensures.slots in let t = c.if-slot-slots.true in omega arith in
    sym (past-total c.self.invariant.0 c.self.view_is c.args.slot l)

pub returns : goal.returns
returns c =
    let l : c.args.slot < length c.self.inside.names.names = let e = c.slots.ensures.slots in let t = c.if-slot-slots.false in omega arith in
    tell-total c.self.invariant.0 c.self.view_is c.args.slot c.total_of.result (cell-of c.self.invariant.0 c.args.slot l) c.total_of.ensures
