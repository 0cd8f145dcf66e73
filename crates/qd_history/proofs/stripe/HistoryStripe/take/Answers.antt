use Rattle.std.proofs.Common.{◌≡◌, ◌+◌, ◌++◌, ◌∷◌, [], List, None, length, length-append, refl, ap, sym, ◌∙◌, arith}
use Rattle.qd_hist_rules.specs.declared.item.HistItem.{HistItem}
use Rattle.qd_history.specs.Steps.{Gift, last_slot}
use Rattle.qd_history.proofs.WalkLaws.{gives-none, gives-snoc, items-snoc, last-snoc, last-none}
use Rattle.qd_history.proofs.stripe.HistoryStripe.take.Goals as goal

pub loop-i-init : goal.loop-i-init
loop-i-init c = record {
  given = ([], gives-none c.args.self.now c.args.agent, c.requires.empty, refl, refl);
  room = refl;
}

pub loop-i-preserved : goal.loop-i-preserved
loop-i-preserved c =
    let inv = c.loop-i.invariant.given in
    let g : Gift = record { slot = c.in-Some.gift.slot; item = c.in-Some.gift.item } in
    let more : length (inv.0 ++ g ∷ []) ≡ c.loop-i._i + 1 = (let e : length inv.0 ≡ c.loop-i._i = inv.3 in omega (arith, length-append inv.0 (g ∷ []))) in
    record {
      given = (
        inv.0 ++ g ∷ [],
        gives-snoc inv.0 c.args.self.now c.loop-i.self c.give.new.self c.args.agent g inv.1 c.in-Some.ensures.given,
        ap (λ o. o.items) c.push.ensures ∙ ap (λ (is : List HistItem). is ++ g.item ∷ []) inv.2 ∙ sym (items-snoc inv.0 g),
        more,
        sym (last-snoc inv.0 g),
      );
      room = ap (λ o. o.room) c.push.ensures ∙ c.loop-i.invariant.room;
    }

pub returns-in_default : goal.returns-in_default
returns-in_default c =
    let inv = c.loop-i.invariant.given in
    let none : last_slot inv.0 ≡ None = sym inv.4 ∙ c.in_default.is in
    let zero : length inv.0 ≡ 0 = last-none inv.0 none in
    let all : length inv.0 ≡ c.loop-i._i = inv.3 in
    absurd (omega arith)
