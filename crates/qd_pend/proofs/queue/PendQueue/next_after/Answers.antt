use Rattle.std.proofs.Common.{◌∙◌, ◌+◌, ap, slice_index, sym}
use Rattle.qd_pend.specs.Linked.{nexts}
use Rattle.qd_pend.proofs.LinkLaws.{next_in-absent}
use Rattle.qd_pend.proofs.QueueLaws.{as_list, next_after-there}
use Rattle.qd_pend.proofs.queue.PendQueue.next_after.Goals as goal

pub returns-then-not-contains : goal.returns-then-not-contains
returns-then-not-contains c = sym (next_in-absent c.args.self.now.list c.args.slot (sym c.contains.ensures ∙ c.if-not-contains.true))

pub returns : goal.returns
returns c =
    next_after-there c.self.inside.links.items c.args.self.now.list c.args.slot c.next_of.result c.slot_at.result (as_list _ _ (ap (λ q. q.list) c.self.view_is) c.self.invariant)
    (sym c.contains.ensures ∙ c.if-not-contains.false) (c.next_of.ensures.next ∙ ap (λ ls. slice_index (nexts ls) (c.args.slot + 1)) c.deref.ensures.value) c.slot_at.ensures
