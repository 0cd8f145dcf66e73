use Rattle.std.proofs.Common.{◌<◌, ◌∙◌, ap, arith, length}
use Rattle.qd_slots.specs.Holds.{is_subscribed}
use Rattle.qd_slots.proofs.HoldLaws.{holding-end, after_end-none}
use Rattle.qd_slots.proofs.holds.Holds.end.Goals as goal

pub invariant_of-self : goal.invariant_of-self
invariant_of-self c =
    let len = ap (λ h. length h.cells) c.self.view_is in
    let w : c.args.slot < length c.self.inside.cells.items = let r = c.requires.slot in omega arith in
    holding-end c.self.inside.cells.items c.set_hold.new.cells.items c.self.inside.orders.items c.drop_order.new.orders.items c.args.agent c.args.slot c.hold_after.result c.self.invariant w c.requires.agent
    (ap is_subscribed c.hold_after.ensures ∙ after_end-none c.args.keep) c.set_hold.ensures.items c.drop_order.ensures
