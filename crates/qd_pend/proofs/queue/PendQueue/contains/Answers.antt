use Rattle.std.proofs.Common.{◌∙◌, ◌+◌, ap, arith, slice_index}
use Rattle.qd_pend.specs.Linked.{nexts}
use Rattle.qd_pend.proofs.QueueLaws.{as_list, contains-within, contains-beyond}
use Rattle.qd_pend.proofs.queue.PendQueue.contains.Goals as goal

pub returns-then-slot-len : goal.returns-then-slot-len
returns-then-slot-len c = contains-beyond c.self.inside.links.items c.args.self.now.list c.args.slot (as_list _ _ (ap (λ q. q.list) c.self.view_is) c.self.invariant) (omega arith)

pub returns : goal.returns
returns c =
    contains-within c.self.inside.links.items c.args.self.now.list c.args.slot c.next_of.result (as_list _ _ (ap (λ q. q.list) c.self.view_is) c.self.invariant)
    (c.next_of.ensures.next ∙ ap (λ ls. slice_index (nexts ls) (c.args.slot + 1)) c.deref.ensures.value) (omega arith)
