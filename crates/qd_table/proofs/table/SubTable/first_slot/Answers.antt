use Rattle.std.proofs.Common.{◌∙◌, ap}
use Rattle.qd_pend.specs.Slots.{first_in}
use Rattle.qd_slots.specs.Holds.{order_at}
use Rattle.qd_table.proofs.Shown.{tell-sound, tell-order, tell-first}
use Rattle.qd_table.proofs.table.SubTable.first_slot.Goals as goal

pub returns-clause-first : goal.returns-clause-first
returns-clause-first c = c.first_of.ensures ∙ ap (λ a. first_in (order_at c.self.inside.holds.orders a).list) c.get.ensures.value ∙ ap first_in (tell-order c.self.invariant.0 c.self.view_is c.args.agent)

pub returns-clause-subscribed : goal.returns-clause-subscribed
returns-clause-subscribed c = tell-first c.self.invariant.0 c.self.view_is c.args.agent c.first_of.result (c.first_of.ensures ∙ ap (λ a. first_in (order_at c.self.inside.holds.orders a).list) c.get.ensures.value)

pub returns-clause-sound : goal.returns-clause-sound
returns-clause-sound c = tell-sound c.self.invariant.0 c.self.view_is
