use Rattle.std.proofs.Common.{◌∙◌, ap, slice_index}
use Rattle.qd_pend.specs.Linked.{nexts, slot_of}
use Rattle.qd_pend.proofs.ChainLaws.{first-links}
use Rattle.qd_pend.proofs.QueueLaws.{as_list}
use Rattle.qd_pend.proofs.queue.PendQueue.front.Goals as goal

pub returns : goal.returns
returns c =
    c.slot_at.ensures ∙ ap slot_of (c.next_of.ensures.next ∙ ap (λ ls. slice_index (nexts ls) 0) c.deref.ensures.value)
    ∙ first-links c.self.inside.links.items c.args.self.now.list (as_list _ _ (ap (λ q. q.list) c.self.view_is) c.self.invariant)
