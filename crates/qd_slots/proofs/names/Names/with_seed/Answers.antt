use Rattle.qd_slots.proofs.IndexLaws.{indexed-new}
use Rattle.qd_slots.proofs.names.Names.with_seed.Goals as goal

pub invariant_of-result : goal.invariant_of-result
invariant_of-result c = indexed-new c.with_hasher.result c.new-3.result.items c.in_ok-free.free c.with_hasher.ensures.empty c.new-3.ensures.items c.in_ok-free.ensures
