use Rattle.std.proofs.Common.{arith}
use Rattle.qd_slots.proofs.HoldLaws.{orders-err}
use Rattle.qd_ticker.proofs.queues.reserve_queue.Goals as goal

pub returns-clause-err : goal.returns-clause-err
returns-clause-err c = orders-err c.reserve.result c.args.queues.now.items c.args.agent c.index_mut-queue.result.now c.reserve.new.self (omega arith) c.index_mut-queue.ensures.value c.reserve.ensures.list c.reserve.ensures.err
