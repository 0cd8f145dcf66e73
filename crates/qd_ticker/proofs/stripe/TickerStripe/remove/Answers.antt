use Rattle.std.proofs.Common.{arith}
use Rattle.qd_ticker.proofs.WayLaws.{end_lead, ends-next, ends-end}
use Rattle.qd_ticker.proofs.stripe.TickerStripe.remove.Goals as goal

pub loop-key-preserved : goal.loop-key-preserved
loop-key-preserved c now st = ends-next c.loop-key.self c.remove_one.new.self c.args.agent c.args.keys.now c.loop-key.key-index c.key-item.result (end_lead c.args.agent now c.args.keys.now) (omega arith) c.key-item.is c.remove_one.ensures (c.loop-key.invariant now st)

pub returns : goal.returns
returns c now st = ends-end c.loop-key.self c.args.agent c.args.keys.now c.loop-key.key-index (end_lead c.args.agent now c.args.keys.now) (omega arith) (c.loop-key.invariant now st)
