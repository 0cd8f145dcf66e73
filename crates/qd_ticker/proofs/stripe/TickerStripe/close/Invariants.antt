use Rattle.std.proofs.Common.{length}
use Rattle.qd_table.specs.Tables.{order_of}
use Rattle.qd_ticker.specs.Pending.{TickerMoment}
use Rattle.qd_ticker.specs.Stripes.{StandsAt}
use Rattle.qd_ticker.proofs.WayLaws.{OnWay, close_lead}
use Rattle.qd_ticker.proofs.stripe.TickerStripe.close.Given as goal

abbrev pub invariant-loop-slot : goal.invariant-loop-slot
invariant-loop-slot l = (now : TickerMoment) → StandsAt l.initial.self now → OnWay l.self (close_lead l.agent) (close_lead l.agent now)

abbrev pub decreases-loop-slot : goal.decreases-loop-slot
decreases-loop-slot l = length (order_of l.self.table l.agent)
