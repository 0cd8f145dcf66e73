use Rattle.std.proofs.Common.{arith}
use Rattle.qd_history.proofs.WalkLaws.{subscribes-more, subscribes-end}
use Rattle.qd_history.proofs.stripe.HistoryStripe.subscribe_all.Goals as goal

pub loop-sub-preserved : goal.loop-sub-preserved
loop-sub-preserved c = record {
  subscribed = λ fin more. c.loop-sub.invariant.subscribed fin (subscribes-more c.loop-sub.self c.subscribe.new.self fin c.args.agent c.subscribe.result c.loop-sub.sub-index c.args.subs.now c.sub-item.result (omega arith) c.sub-item.is c.subscribe.ensures.subscribed more);
  room = omega (arith, c.subscribe.ensures.subscribed.table.room, c.loop-sub.invariant.room);
  slots = c.subscribe.ensures.room;
}

pub returns : goal.returns
returns c = c.loop-sub.invariant.subscribed c.loop-sub.self (subscribes-end c.loop-sub.self c.args.agent c.loop-sub.sub-index c.args.subs.now (omega arith))
