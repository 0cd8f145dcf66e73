use Rattle.std.proofs.Common.{arith}
use Rattle.qd_ticker.proofs.WayLaws.{add_lead, adds-next, adds-end, added-room}
use Rattle.qd_ticker.proofs.stripe.TickerStripe.subscribe_all.Goals as goal

pub loop-sub-preserved : goal.loop-sub-preserved
loop-sub-preserved c = record {
  way = λ now st. adds-next c.loop-sub.self c.subscribe.new.self c.args.agent c.subscribe.result c.args.subs.now c.loop-sub.sub-index c.sub-item.result (add_lead c.args.agent now c.args.subs.now) (omega arith) c.sub-item.is c.subscribe.ensures (c.loop-sub.invariant.way now st);
  subscriptions = omega (arith, c.subscribe.ensures.table.room);
  room = added-room c.loop-sub.self c.subscribe.new.self c.args.agent c.subscribe.result c.sub-item.result.key c.subscribe.ensures c.loop-sub.invariant.room;
}

pub returns : goal.returns
returns c now st = adds-end c.loop-sub.self c.args.agent c.args.subs.now c.loop-sub.sub-index (add_lead c.args.agent now c.args.subs.now) (omega arith) (c.loop-sub.invariant.way now st)
