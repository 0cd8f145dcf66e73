use Rattle.std.proofs.Common.{◌+◌, drop, arith}
use Rattle.qd_history.proofs.RoomLaws.{can-one}
use Rattle.qd_history.proofs.WalkLaws.{puts-more, puts-end, can-next}
use Rattle.qd_history.proofs.stripe.HistoryStripe.put_all.Goals as goal

pub put-requires : goal.put-requires
put-requires c =
    let left = drop (c.loop-e.e-index + 1) c.args.items.now in
    can-one c.loop-e.self c.e-item.result left (can-next c.loop-e.self c.loop-e.e-index c.args.items.now c.e-item.result (omega arith) c.e-item.is c.loop-e.invariant.can)

pub loop-e-preserved : goal.loop-e-preserved
loop-e-preserved c =
    let left = drop (c.loop-e.e-index + 1) c.args.items.now in
    record {
      put = λ fin more. c.loop-e.invariant.put fin (puts-more c.loop-e.self c.put.new.self fin c.loop-e.e-index c.args.items.now c.e-item.result (omega arith) c.e-item.is c.put.ensures.put more);
      can = c.put.ensures.rest left (can-next c.loop-e.self c.loop-e.e-index c.args.items.now c.e-item.result (omega arith) c.e-item.is c.loop-e.invariant.can);
    }

pub returns : goal.returns
returns c = c.loop-e.invariant.put c.loop-e.self (puts-end c.loop-e.self c.loop-e.e-index c.args.items.now (omega arith))
