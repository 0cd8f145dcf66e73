use Rattle.std.proofs.Common.{◌∙◌, ap}
use Rattle.qd_pend.specs.Slots.{first_in}
use Rattle.qd_slots.specs.Views.{viewing_at}
use Rattle.qd_table.proofs.Shown.{tell-sound, tell-queue}
use Rattle.qd_table.proofs.table.SubTable.first_differing.Goals as goal

pub returns-clause-first : goal.returns-clause-first
returns-clause-first c = c.first.ensures ∙ ap (λ w. first_in (viewing_at c.self.inside.watchers w).queue.list) c.get.ensures.value ∙ ap first_in (tell-queue c.self.invariant.0 c.self.view_is c.args.watcher)

pub returns-clause-sound : goal.returns-clause-sound
returns-clause-sound c = tell-sound c.self.invariant.0 c.self.view_is
