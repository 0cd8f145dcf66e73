use Rattle.std.proofs.Common.{arith}
use Rattle.qd_stream.proofs.WalkLaws.{subscribes-more, subscribes-end}
use Rattle.qd_stream.proofs.stripe.subscribe_all.Goals as goal

pub loop-sub-preserved : goal.loop-sub-preserved
loop-sub-preserved c = record {
  rest = λ fin more. c.loop-sub.invariant.rest fin (subscribes-more c.loop-sub.table c.subscribe-slot.new.self fin c.args.agent c.subscribe-slot.result c.loop-sub.sub-index c.args.subs.now c.sub-item.result (omega arith) c.sub-item.is c.subscribe-slot.ensures more);
  room = (let less = c.subscribe-slot.ensures.room in let room = c.loop-sub.invariant.room in omega arith);
}

pub returns : goal.returns
returns c = c.loop-sub.invariant.rest c.loop-sub.table (subscribes-end c.loop-sub.table c.args.agent c.loop-sub.sub-index c.args.subs.now (omega arith))
