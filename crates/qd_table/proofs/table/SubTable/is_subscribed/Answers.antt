use Rattle.std.proofs.Common.{◌≤◌, ◌∙◌, ap, sym, arith, length}
use Rattle.qd_slots.specs.Holds.{is_subscribed, hold_at}
use Rattle.qd_table.proofs.Shown.{tell-hold, past-hold}
use Rattle.qd_table.proofs.table.SubTable.is_subscribed.Goals as goal

pub returns-then-slot-slots : goal.returns-then-slot-slots
returns-then-slot-slots c =
    let l : length c.self.inside.names.names ≤ c.args.slot = let e = c.slots.ensures.slots in let t = c.if-slot-slots.true in omega arith in
    sym (past-hold c.self.invariant.0 c.self.view_is c.args.agent c.args.slot l)

pub returns : goal.returns
returns c = c.is_subscribed.ensures ∙ ap is_subscribed (tell-hold c.self.invariant.0 c.self.view_is c.args.agent c.args.slot c.hold_of.result (c.hold_of.ensures ∙ ap (hold_at c.self.inside.holds.cells c.args.slot) c.get.ensures.value))
