use Rattle.std.proofs.Common.{◌≡◌, ◌<◌, ◌-◌, ◌∙◌, ap, slice_index, length, arith, ◌++◌, ◌∷◌, []}
use Rattle.qd_pend.specs.Linked.{prevs, IsChain}
use Rattle.qd_pend.proofs.ChainLaws.{last-within, chain-kept, shown}
use Rattle.qd_pend.proofs.QueueLaws.{as_list, pushed}
use Rattle.qd_pend.proofs.queue.PendQueue.push_back.Goals as goal

pub join-requires-clause-before : goal.join-requires-clause-before
join-requires-clause-before c =
    let w = last-within c.self.inside.links.items c.args.self.now.list (as_list _ _ (ap (λ q. q.list) c.self.view_is) c.self.invariant) in
    let e = c.prev_of-last.ensures.prev ∙ ap (λ ls. slice_index (prevs ls) 0) c.deref.ensures.value in
    omega arith

chain : (c : goal.After-join-2) → IsChain c.join-2.new.links.items (c.args.self.now.list ++ c.args.slot ∷ [])
chain c =
    let below : c.args.slot < length c.self.inside.links.items - 1 = let e = ap (λ q. q.slots) c.self.view_is in let r = c.requires.below in omega arith in
    let len : length c.join-2.new.links.items ≡ length c.self.inside.links.items = omega arith in
    pushed c.self.inside.links.items c.join.new.links.items c.join-2.new.links.items c.args.self.now.list c.args.slot c.prev_of-last.result (as_list _ _ (ap (λ q. q.list) c.self.view_is) c.self.invariant) below c.requires.absent (c.prev_of-last.ensures.prev ∙ ap (λ ls. slice_index (prevs ls) 0) c.deref.ensures.value)
    c.join.ensures.nexts c.join.ensures.prevs c.join-2.ensures.nexts c.join-2.ensures.prevs len

pub invariant_of-self : goal.invariant_of-self
invariant_of-self c = chain-kept c.join-2.new.links.items (c.args.self.now.list ++ c.args.slot ∷ []) (chain c)

pub returns : goal.returns
returns c =
    let e = ap (λ q. q.slots) c.self.view_is in
    let slots : length c.join-2.new.links.items - 1 ≡ c.args.self.now.slots = omega arith in
    shown c.join-2.new.links.items (c.args.self.now.list ++ c.args.slot ∷ []) c.args.self.now.slots (chain c) slots
