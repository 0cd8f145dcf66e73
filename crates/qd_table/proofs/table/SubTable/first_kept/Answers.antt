use Rattle.std.proofs.Common.{◌∙◌, ap}
use Rattle.qd_pend.specs.Slots.{first_in}
use Rattle.qd_slots.specs.Holds.{order_at}
use Rattle.qd_table.proofs.Shown.{tell-sound, tell-kept, tell-unkept}
use Rattle.qd_table.proofs.table.SubTable.first_kept.Goals as goal

pub returns-clause-kept : goal.returns-clause-kept
returns-clause-kept c = tell-kept c.self.invariant.0 c.self.view_is c.args.agent c.first_of.result (c.first_of.ensures ∙ ap (λ a. first_in (order_at c.self.inside.kept a).list) c.get.ensures.value)

pub returns-clause-none : goal.returns-clause-none
returns-clause-none c = tell-unkept c.self.invariant.0 c.self.view_is c.args.agent c.first_of.result (c.first_of.ensures ∙ ap (λ a. first_in (order_at c.self.inside.kept a).list) c.get.ensures.value)

pub returns-clause-sound : goal.returns-clause-sound
returns-clause-sound c = tell-sound c.self.invariant.0 c.self.view_is
