use Rattle.std.proofs.Common.{arith}
use Rattle.qd_history.proofs.WalkLaws.{removes-more, removes-end}
use Rattle.qd_history.proofs.stripe.HistoryStripe.remove.Goals as goal

pub loop-key-preserved : goal.loop-key-preserved
loop-key-preserved c = λ fin more. c.loop-key.invariant fin (removes-more c.loop-key.self c.remove_one.new.self fin c.args.agent c.loop-key.key-index c.args.keys.now c.key-item.result (omega arith) c.key-item.is c.remove_one.ensures more)

pub returns : goal.returns
returns c = c.loop-key.invariant c.loop-key.self (removes-end c.loop-key.self c.args.agent c.loop-key.key-index c.args.keys.now (omega arith))
