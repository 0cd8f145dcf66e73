use Rattle.std.proofs.Common.{arith}
use Rattle.qd_stream.proofs.WalkLaws.{puts-more, puts-end}
use Rattle.qd_stream.proofs.stripe.StreamStripe.put_all.Goals as goal

pub loop-item-preserved : goal.loop-item-preserved
loop-item-preserved c = λ fin more. c.loop-item.invariant fin (puts-more c.loop-item.self c.put.new.self fin c.loop-item.item-index c.args.items.now c.item-item.result (omega arith) c.item-item.is c.put.ensures more)

pub returns : goal.returns
returns c = c.loop-item.invariant c.loop-item.self (puts-end c.loop-item.self c.loop-item.item-index c.args.items.now (omega arith))
