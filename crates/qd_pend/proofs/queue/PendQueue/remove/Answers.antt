use Rattle.std.proofs.Common.{◌≡◌, ◌-◌, ◌+◌, ◌∙◌, ap, slice_index, length, sym, arith}
use Rattle.qd_pend.specs.Slots.{without}
use Rattle.qd_pend.specs.Linked.{nexts, prevs, IsChain}
use Rattle.qd_pend.proofs.ListLaws.{without-absent}
use Rattle.qd_pend.proofs.ChainLaws.{chain-kept, shown}
use Rattle.qd_pend.proofs.QueueLaws.{as_list, as_shown, cut, before-within, after-within}
use Rattle.qd_pend.proofs.queue.PendQueue.remove.Goals as goal

pub returns-then-not-contains-clause-after : goal.returns-then-not-contains-clause-after
returns-then-not-contains-clause-after c = as_shown c.args.self.now _ (sym (without-absent c.args.self.now.list c.args.slot (sym c.contains.ensures ∙ c.if-not-contains.true)))

pub join-requires-clause-before : goal.join-requires-clause-before
join-requires-clause-before c =
    let w = before-within c.self.inside.links.items c.args.self.now.list c.args.slot c.prev_of-before.result (as_list _ _ (ap (λ q. q.list) c.self.view_is) c.self.invariant) (sym c.contains.ensures ∙ c.if-not-contains.false)
    (c.prev_of-before.ensures.prev ∙ ap (λ ls. slice_index (prevs ls) (c.args.slot + 1)) c.deref.ensures.value) in
    omega arith

pub join-requires-clause-after : goal.join-requires-clause-after
join-requires-clause-after c =
    let w = after-within c.self.inside.links.items c.args.self.now.list c.args.slot c.next_of-after.result (as_list _ _ (ap (λ q. q.list) c.self.view_is) c.self.invariant) (sym c.contains.ensures ∙ c.if-not-contains.false)
    (c.next_of-after.ensures.next ∙ ap (λ ls. slice_index (nexts ls) (c.args.slot + 1)) c.deref-2.ensures.value) in
    omega arith

chain : (c : goal.After-join-2) → IsChain c.join-2.new.links.items (without c.args.self.now.list c.args.slot)
chain c =
    let len : length c.join-2.new.links.items ≡ length c.self.inside.links.items = omega arith in
    cut c.self.inside.links.items c.join.new.links.items c.join-2.new.links.items c.args.self.now.list c.args.slot c.prev_of-before.result c.next_of-after.result (as_list _ _ (ap (λ q. q.list) c.self.view_is) c.self.invariant) (sym c.contains.ensures ∙ c.if-not-contains.false)
    (c.prev_of-before.ensures.prev ∙ ap (λ ls. slice_index (prevs ls) (c.args.slot + 1)) c.deref.ensures.value) (c.next_of-after.ensures.next ∙ ap (λ ls. slice_index (nexts ls) (c.args.slot + 1)) c.deref-2.ensures.value)
    c.join.ensures.nexts c.join.ensures.prevs c.join-2.ensures.nexts c.join-2.ensures.prevs len

pub invariant_of-self : goal.invariant_of-self
invariant_of-self c = chain-kept c.join-2.new.links.items (without c.args.self.now.list c.args.slot) (chain c)

pub returns-clause-after : goal.returns-clause-after
returns-clause-after c =
    let e = ap (λ q. q.slots) c.self.view_is in
    let slots : length c.join-2.new.links.items - 1 ≡ c.args.self.now.slots = omega arith in
    shown c.join-2.new.links.items (without c.args.self.now.list c.args.slot) c.args.self.now.slots (chain c) slots
