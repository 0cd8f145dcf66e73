use Rattle.std.proofs.Common.{[], rules}
use Rattle.qd_pend.proofs.ChainLaws.{chain-new, chain-kept, shown}
use Rattle.qd_pend.proofs.queue.PendQueue.new.Goals as goal

pub invariant_of-result : goal.invariant_of-result
invariant_of-result c = chain-kept c.push.new.self.items [] (chain-new c.push.new.self.items (search rules))

pub returns : goal.returns
returns c = shown c.push.new.self.items [] 0 (chain-new c.push.new.self.items (search rules)) (search rules)
