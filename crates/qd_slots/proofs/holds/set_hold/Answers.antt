use Rattle.std.proofs.Common.{◌<◌, ap, arith, slice_set, length}
use Rattle.qd_slots.specs.Holds.{with_hold, no_cell}
use Rattle.qd_slots.proofs.HoldLaws.{at-read}
use Rattle.qd_slots.proofs.holds.set_hold.Goals as goal

pub returns-clause-items : goal.returns-clause-items
returns-clause-items c =
    let w : c.args.slot < length c.args.cells.now.items = omega arith in
    ap (λ x. slice_set c.args.cells.now.items c.args.slot (with_hold x c.args.agent c.args.hold)) (at-read c.args.cells.now.items c.args.slot c.index_mut-cell.result.now no_cell w c.index_mut-cell.ensures.value)
