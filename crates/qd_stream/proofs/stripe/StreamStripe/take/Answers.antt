use Rattle.std.proofs.Common.{◌≡◌, ◌+◌, ◌-◌, ◌∷◌, ◌++◌, [], suc, length, ap, ◌∙◌, subst, arith, length-append}
use Rattle.qd_stream.specs.Steps.{GivesAll}
use Rattle.qd_stream.proofs.WalkLaws.{gives-more, gives-none, gives-end, given-more, filled-end}
use Rattle.qd_stream.proofs.stripe.StreamStripe.take.Goals as goal

pub loop-i-preserved : goal.loop-i-preserved
loop-i-preserved c =
    let fewer : c.args.most - c.loop-i._i ≡ suc (c.args.most - (c.loop-i._i + 1)) = omega arith in
    let items = ap (λ o. o.items) c.push.ensures in
    record {
      given = λ rest fin more. subst (λ is. GivesAll c.args.most c.args.self.now c.args.agent is fin) (given-more c.loop-i.out.items c.push.new.self.items c.in-Some.item rest items)
          (c.loop-i.invariant.given (c.in-Some.item ∷ rest) fin (gives-more (c.args.most - c.loop-i._i) (c.args.most - (c.loop-i._i + 1)) c.loop-i.self c.give.new.self fin c.args.agent c.in-Some.item rest fewer c.in-Some.ensures more));
      few = (let size = length-append c.loop-i.out.items (c.in-Some.item ∷ []) in let same = ap length items in let few = c.loop-i.invariant.few in omega arith);
      room = ap (λ o. o.room) c.push.ensures ∙ c.loop-i.invariant.room;
    }

pub returns-after-loop-i : goal.returns-after-loop-i
returns-after-loop-i c =
    let none : c.args.most - c.loop-i._i ≡ 0 = omega arith in
    record { given = (c.loop-i.out.items ++ [], filled-end c.args.out.now c.loop-i.out c.loop-i.invariant.room, c.loop-i.invariant.given [] c.loop-i.self (gives-end (c.args.most - c.loop-i._i) c.loop-i.self c.args.agent none)) }

pub returns-in-None : goal.returns-in-None
returns-in-None c =
    let fewer : c.args.most - c.loop-i._i ≡ suc (c.args.most - (c.loop-i._i + 1)) = omega arith in
    record { given = (c.loop-i.out.items ++ [], filled-end c.args.out.now c.loop-i.out c.loop-i.invariant.room, c.loop-i.invariant.given [] c.give.new.self (gives-none (c.args.most - c.loop-i._i) (c.args.most - (c.loop-i._i + 1)) c.loop-i.self c.give.new.self c.args.agent fewer c.in-None.ensures)) }
