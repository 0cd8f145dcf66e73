use Rattle.qd_ticker.specs.Pending.{TickerMoment}
use Rattle.qd_ticker.specs.Stripes.{StandsAt}
use Rattle.qd_ticker.proofs.WayLaws.{OnWay, LeftFrom, end_lead}
use Rattle.qd_ticker.proofs.stripe.TickerStripe.remove.Given as goal

abbrev pub invariant-loop-key : goal.invariant-loop-key
invariant-loop-key l = (now : TickerMoment) → StandsAt l.initial.self now → OnWay l.self (LeftFrom (end_lead l.agent) l.keys l.key-index) (end_lead l.agent now l.keys)
