use Rattle.std.proofs.Common.{arith}
use Rattle.qd_slots.proofs.HoldLaws.{orders-err}
use Rattle.qd_slots.proofs.holds.reserve_order.Goals as goal

pub returns-clause-err : goal.returns-clause-err
returns-clause-err c = orders-err c.reserve.result c.args.orders.now.items c.args.agent c.index_mut-order.result.now c.reserve.new.self (omega arith) c.index_mut-order.ensures.value c.reserve.ensures.list c.reserve.ensures.err
