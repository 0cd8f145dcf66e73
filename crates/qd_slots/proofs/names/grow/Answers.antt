use Rattle.std.proofs.Common.{arith}
use Rattle.qd_slots.proofs.IndexLaws.{ready-none}
use Rattle.qd_slots.proofs.names.grow.Goals as goal

pub returns-then-more-free_count-clause-ok : goal.returns-then-more-free_count-clause-ok
returns-then-more-free_count-clause-ok c = ready-none c.args.names.now.items c.args.free.now c.args.free_count c.args.more c.requires.counted c.requires.vacant c.requires.once (omega arith) (omega arith) c.if-more-free_count.true
