use Rattle.std.proofs.Common.{◌<◌, ◌∙◌, ap, arith, length}
use Rattle.qd_slots.specs.Holds.{hold_at}
use Rattle.qd_slots.proofs.HoldLaws.{holding-subscribed, subscribed-shown}
use Rattle.qd_slots.proofs.holds.Holds.subscribe.Goals as goal

pub invariant_of-self : goal.invariant_of-self
invariant_of-self c =
    let cells = ap (λ h. h.cells) c.self.view_is in
    let len = ap (λ h. length h.cells) c.self.view_is in
    let w : c.args.slot < length c.self.inside.cells.items = let r = c.requires.slot in omega arith in
    holding-subscribed c.self.inside.cells.items c.set_hold.new.cells.items c.set_limit.new.cells.items c.self.inside.orders.items c.push_order.new.orders.items c.args.agent c.args.slot c.args.limit c.hold_in_cells-hold.result c.self.invariant w c.requires.agent
    (c.hold_in_cells-hold.ensures ∙ ap (λ cs. hold_at cs c.args.slot c.args.agent) c.deref.ensures.value) c.set_hold.ensures.items c.set_limit.ensures.items c.push_order.ensures

pub returns : goal.returns
returns c =
    let len = ap (λ h. length h.cells) c.self.view_is in
    let w : c.args.slot < length c.self.inside.cells.items = let r = c.requires.slot in omega arith in
    subscribed-shown c.args.self.now c.self.inside.cells.items c.set_hold.new.cells.items c.set_limit.new.cells.items c.self.inside.orders.items c.push_order.new.orders.items c.self.inside.pairs c.more_pairs-self-inside.result c.args.agent c.args.slot c.args.limit c.hold_in_cells-hold.result c.self.view_is w
    (c.hold_in_cells-hold.ensures ∙ ap (λ cs. hold_at cs c.args.slot c.args.agent) c.deref.ensures.value) c.set_hold.ensures.items c.set_limit.ensures.items c.push_order.ensures c.more_pairs-self-inside.ensures
