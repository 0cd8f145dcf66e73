use Rattle.std.proofs.Common.{suc}
use Rattle.qd_stream.proofs.WalkLaws.{drops-more, drops-end}
use Rattle.qd_stream.proofs.stripe.StreamStripe.drop_all.Goals as goal

pub loop-item-preserved : goal.loop-item-preserved
loop-item-preserved c = λ n fin more. c.loop-item.invariant (suc n) fin (drops-more n c.loop-item.self c.give.new.self fin c.args.agent c.in-Some._item c.in-Some.ensures more)

pub returns : goal.returns
returns c = c.loop-item.invariant 0 c.give.new.self (drops-end c.loop-item.self c.give.new.self c.args.agent c.in_default.ensures)
