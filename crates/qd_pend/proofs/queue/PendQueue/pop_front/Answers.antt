use Rattle.std.proofs.Common.{◌≡◌, ◌∙◌, ap, sym, slice_index}
use Rattle.qd_pend.specs.Slots.{first_in}
use Rattle.qd_pend.specs.Linked.{nexts, slot_of}
use Rattle.qd_pend.proofs.ChainLaws.{first-links}
use Rattle.qd_pend.proofs.QueueLaws.{as_list, without-front, nothing-left}
use Rattle.qd_pend.proofs.queue.PendQueue.pop_front.Goals as goal

found : (c : goal.In-None) → c.slot_at.result ≡ first_in c.args.self.now.list
found c =
    c.slot_at.ensures ∙ ap slot_of (c.next_of.ensures.next ∙ ap (λ ls. slice_index (nexts ls) 0) c.deref.ensures.value)
    ∙ first-links c.self.inside.links.items c.args.self.now.list (as_list _ _ (ap (λ q. q.list) c.self.view_is) c.self.invariant)

pub returns-in-None-clause-first : goal.returns-in-None-clause-first
returns-in-None-clause-first c = sym c.in-None.is ∙ found c

pub returns-in-None-clause-after : goal.returns-in-None-clause-after
returns-in-None-clause-after c = nothing-left c.args.self.now (sym c.in-None.is ∙ found c)

pub returns-in-Some-clause-first : goal.returns-in-Some-clause-first
returns-in-Some-clause-first c =
    sym c.in-Some.is
    ∙ c.slot_at.ensures
    ∙ ap slot_of (c.next_of.ensures.next ∙ ap (λ ls. slice_index (nexts ls) 0) c.deref.ensures.value)
    ∙ first-links c.self.inside.links.items c.args.self.now.list (as_list _ _ (ap (λ q. q.list) c.self.view_is) c.self.invariant)

pub returns-in-Some-clause-after : goal.returns-in-Some-clause-after
returns-in-Some-clause-after c =
    let chain = as_list _ _ (ap (λ q. q.list) c.self.view_is) c.self.invariant in
    let first = sym c.in-Some.is ∙ c.slot_at.ensures ∙ ap slot_of (c.next_of.ensures.next ∙ ap (λ ls. slice_index (nexts ls) 0) c.deref.ensures.value) ∙ first-links c.self.inside.links.items c.args.self.now.list chain in
    c.remove.ensures.after ∙ ap (λ xs. record { list = xs; slots = c.args.self.now.slots }) (without-front c.args.self.now.list c.in-Some.first chain.once first)
