use Rattle.std.proofs.Common.{◌∙◌, ap}
use Rattle.qd_pend.specs.Slots.{SlotList, has}
use Rattle.qd_pend.proofs.ListLaws.{has-without_same}
use Rattle.qd_slots.proofs.ViewLaws.{told-shown}
use Rattle.qd_slots.proofs.views.Watcher.tell.Goals as goal

pub requeue_last-requires-clause-absent : goal.requeue_last-requires-clause-absent
requeue_last-requires-clause-absent c = ap (λ (q : SlotList). has q.list c.args.slot) c.remove.ensures.after ∙ has-without_same c.self.inside.queue.list c.args.slot

pub returns : goal.returns
returns c =
    told-shown c.args.self.now c.self.inside.views.items c.set_view.new.views.items c.self.inside.queue c.remove.new.self c.requeue_last.new.queue c.args.slot c.args.told c.args.total c.told-view.result c.differs.result
    c.self.view_is c.told-view.ensures c.set_view.ensures.items c.remove.ensures.after c.differs.ensures c.requeue_last.ensures
