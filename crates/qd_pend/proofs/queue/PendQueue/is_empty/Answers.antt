use Rattle.std.proofs.Common.{◌∙◌, ap, slice_index, nat_eq}
use Rattle.qd_pend.specs.Linked.{nexts}
use Rattle.qd_pend.proofs.ChainLaws.{empty-links}
use Rattle.qd_pend.proofs.QueueLaws.{as_list}
use Rattle.qd_pend.proofs.queue.PendQueue.is_empty.Goals as goal

pub returns : goal.returns
returns c =
    ap (λ p. nat_eq p 0) (c.next_of.ensures.next ∙ ap (λ ls. slice_index (nexts ls) 0) c.deref.ensures.value)
    ∙ empty-links c.self.inside.links.items c.args.self.now.list (as_list _ _ (ap (λ q. q.list) c.self.view_is) c.self.invariant)
