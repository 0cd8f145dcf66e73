use Rattle.std.proofs.Common.{◌∙◌, ap}
use Rattle.qd_pend.specs.Slots.{next_in}
use Rattle.qd_slots.specs.Views.{viewing_at}
use Rattle.qd_table.proofs.Shown.{tell-queue}
use Rattle.qd_table.proofs.table.SubTable.next_differing.Goals as goal

pub returns : goal.returns
returns c = c.next_after.ensures ∙ ap (λ w. next_in (viewing_at c.self.inside.watchers w).queue.list c.args.slot) c.get.ensures.value ∙ ap (λ q. next_in q c.args.slot) (tell-queue c.self.invariant.0 c.self.view_is c.args.watcher)
