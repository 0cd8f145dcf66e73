use Rattle.std.proofs.Common.{arith}
use Rattle.qd_stream.proofs.OutboxLaws.{sound-empty}
use Rattle.qd_stream.proofs.outbox.Outbox.new.Goals as goal

pub invariant_of-result : goal.invariant_of-result
invariant_of-result c = rw (c.in_ok-with_capacity.ensures, c.in_ok-new.ensures, c.new.ensures.items, c.new-2.ensures.items) (sound-empty c.from.result (omega arith))
