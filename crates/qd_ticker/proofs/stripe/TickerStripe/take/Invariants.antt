use Rattle.std.proofs.Common.{◌≡◌, ◌≤◌, ◌-◌, length}
use Rattle.qd_sub.specs.Logs.{after}
use Rattle.qd_ticker.specs.Pending.{TickerMoment, taken}
use Rattle.qd_ticker.specs.Stripes.{StandsAt}
use Rattle.qd_ticker.specs.Steps.{gift_acts}
use Rattle.qd_ticker.proofs.WayLaws.{OnTake}
use Rattle.qd_ticker.proofs.stripe.TickerStripe.take.Given as goal

abbrev pub invariant-loop-i : goal.invariant-loop-i
invariant-loop-i l = record {
  way : (now : TickerMoment) → StandsAt l.initial.self now → OnTake l.self l.agent (l.most - l._i) l.out.items (taken l.agent l.most now) (after now (gift_acts l.agent (taken l.agent l.most now)));
  few : length l.out.items ≤ l._i;
  room : l.out.room ≡ l.initial.out.room;
}
