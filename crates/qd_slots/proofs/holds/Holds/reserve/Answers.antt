use Rattle.std.proofs.Common.{◌<◌, arith, length}
use Rattle.qd_slots.proofs.HoldLaws.{holding-room, holding-free, roomier-err, roomier-ok}
use Rattle.qd_slots.proofs.holds.Holds.reserve.Goals as goal

pub returns-in_err-reserve_order-clause-kept : goal.returns-in_err-reserve_order-clause-kept
returns-in_err-reserve_order-clause-kept c = roomier-err c.args.self.now c.self.inside.cells.items c.self.inside.orders.items c.reserve_order.new.orders.items c.self.inside.pairs c.self.view_is c.in_err-reserve_order.ensures.err

pub invariant_of-self-2 : goal.invariant_of-self-2
invariant_of-self-2 c =
    holding-free c.self.inside.cells.items c.reserve_cells.new.cells.items c.reserve_order.new.orders.items c.reserve_cells.ensures.grown.0
    (holding-room c.self.inside.cells.items c.self.inside.orders.items c.reserve_order.new.orders.items c.args.agent c.args.slots c.self.invariant c.requires c.in_ok-reserve_order.ensures.ok) c.reserve_cells.ensures.grown.1

pub returns-clause-kept : goal.returns-clause-kept
returns-clause-kept c =
    let w : c.args.agent < length c.self.inside.orders.items = let a = c.self.invariant.agents in let r = c.requires in omega arith in
    roomier-ok c.args.self.now c.self.inside.cells.items c.reserve_cells.new.cells.items c.self.inside.orders.items c.reserve_order.new.orders.items c.self.inside.pairs c.reserve_cells.ensures.grown.0 c.args.agent c.args.slots c.self.view_is w c.reserve_cells.ensures.grown.1 c.in_ok-reserve_order.ensures.ok
