use Rattle.std.proofs.Common.{◌≤◌, ◌+◌, length}
use Rattle.qd_table.specs.Tables.{room_for}
use Rattle.qd_ticker.specs.Pending.{TickerMoment}
use Rattle.qd_ticker.specs.Stripes.{StandsAt}
use Rattle.qd_ticker.specs.Steps.{HasRoom}
use Rattle.qd_ticker.proofs.WayLaws.{OnWay, LeftFrom, add_lead}
use Rattle.qd_ticker.proofs.stripe.TickerStripe.subscribe_all.Given as goal

abbrev pub invariant-loop-sub : goal.invariant-loop-sub
invariant-loop-sub l = record {
  way : (now : TickerMoment) → StandsAt l.initial.self now → OnWay l.self (LeftFrom (add_lead l.agent) l.subs l.sub-index) (add_lead l.agent now l.subs);
  subscriptions : length l.subs ≤ l.sub-index + room_for l.self.table l.agent;
  room : HasRoom l.self l.agent;
}
