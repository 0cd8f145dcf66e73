use Rattle.std.proofs.Common.{arith}
use Rattle.qd_ticker.proofs.WayLaws.{put_lead, puts-next, puts-end}
use Rattle.qd_ticker.proofs.stripe.TickerStripe.put_all.Goals as goal

pub loop-latest-preserved : goal.loop-latest-preserved
loop-latest-preserved c now st = puts-next c.loop-latest.self c.put.new.self c.args.items.now c.loop-latest.latest-index c.latest-item.result (put_lead now c.args.items.now) (omega arith) c.latest-item.is c.put.ensures (c.loop-latest.invariant now st)

pub returns : goal.returns
returns c now st = puts-end c.loop-latest.self c.args.items.now c.loop-latest.latest-index (put_lead now c.args.items.now) (omega arith) (c.loop-latest.invariant now st)
