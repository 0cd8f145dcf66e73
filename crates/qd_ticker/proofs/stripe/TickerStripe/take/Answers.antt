use Rattle.std.proofs.Common.{arith, ap, refl, ◌∙◌, ◌-◌, ◌+◌, suc, ◌≡◌, length, length-append, [], ◌∷◌}
use Rattle.qd_sub.specs.Logs.{after}
use Rattle.qd_ticker.specs.Pending.{taken}
use Rattle.qd_ticker.specs.Steps.{gift_acts}
use Rattle.qd_ticker.proofs.WayLaws.{take-start, take-next, take-stop, take-full, filled}
use Rattle.qd_ticker.proofs.stripe.TickerStripe.take.Goals as goal

pub loop-i-init : goal.loop-i-init
loop-i-init c = record {
  way = λ now st. take-start c.args.self.now c.args.agent c.args.most (c.args.most - 0) c.args.out.now.items now (omega arith) c.requires.empty st;
  few = omega (arith, ap length c.requires.empty);
  room = refl;
}

pub loop-i-preserved : goal.loop-i-preserved
loop-i-preserved c =
    let fewer : c.args.most - c.loop-i._i ≡ suc (c.args.most - (c.loop-i._i + 1)) = omega arith in
    let items = ap (λ o. o.items) c.push.ensures in
    record {
      way = λ now st. take-next c.loop-i.self c.take_first.new.self c.args.agent (c.args.most - c.loop-i._i) (c.args.most - (c.loop-i._i + 1)) c.loop-i.out.items c.push.new.self.items (taken c.args.agent c.args.most now) c.in-Some.latest (after now (gift_acts c.args.agent (taken c.args.agent c.args.most now))) fewer c.in-Some.ensures items (c.loop-i.invariant.way now st);
      few = omega (arith, ap length items, length-append c.loop-i.out.items (c.in-Some.latest ∷ []));
      room = ap (λ o. o.room) c.push.ensures ∙ c.loop-i.invariant.room;
    }

pub returns-in-None : goal.returns-in-None
returns-in-None c now st =
    let given = take-stop c.loop-i.self c.take_first.new.self c.args.agent (c.args.most - c.loop-i._i) c.loop-i.out.items (taken c.args.agent c.args.most now) (after now (gift_acts c.args.agent (taken c.args.agent c.args.most now))) c.in-None.ensures (c.loop-i.invariant.way now st) in
    (filled c.loop-i.out c.args.out.now (taken c.args.agent c.args.most now) given.0 c.loop-i.invariant.room, given.1)

pub returns : goal.returns
returns c now st =
    let given = take-full c.loop-i.self c.args.agent (c.args.most - c.loop-i._i) c.loop-i.out.items (taken c.args.agent c.args.most now) (after now (gift_acts c.args.agent (taken c.args.agent c.args.most now))) (omega arith) (c.loop-i.invariant.way now st) in
    (filled c.loop-i.out c.args.out.now (taken c.args.agent c.args.most now) given.0 c.loop-i.invariant.room, given.1)
