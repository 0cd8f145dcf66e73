use Rattle.std.proofs.Common.{◌≡◌, ◌+◌, ap, arith, vec_len, length}
use Rattle.qd_pend.specs.Linked.{IsChain}
use Rattle.qd_pend.proofs.ChainLaws.{chain-kept, listed-chain}
use Rattle.qd_pend.proofs.QueueLaws.{as_list, grown-chain}
use Rattle.qd_pend.proofs.queue.PendQueue.reserve.Goals as goal

chain : (c : goal.After-add_free) → IsChain c.add_free.new.links.items c.args.self.now.list
chain c =
    let len : length c.self.inside.links.items ≡ vec_len c.reserve.new.self = omega arith in
    let places : length c.add_free.new.links.items ≡ c.args.slots + 1 = omega arith in
    grown-chain c.self.inside.links.items c.reserve.new.self.items c.add_free.new.links.items c.args.self.now.list (vec_len c.reserve.new.self) (c.args.slots + 1) (as_list _ _ (ap (λ q. q.list) c.self.view_is) c.self.invariant) c.in_ok-reserve.ensures.items len (omega arith) (omega arith)
    c.add_free.ensures.nexts c.add_free.ensures.prevs places

pub invariant_of-self-2 : goal.invariant_of-self-2
invariant_of-self-2 c = chain-kept c.add_free.new.links.items c.args.self.now.list (chain c)

pub returns-clause-list : goal.returns-clause-list
returns-clause-list c = listed-chain c.add_free.new.links.items c.args.self.now.list (chain c)

pub returns-clause-ok : goal.returns-clause-ok
returns-clause-ok c = let e = ap (λ q. q.slots) c.self.view_is in omega arith
