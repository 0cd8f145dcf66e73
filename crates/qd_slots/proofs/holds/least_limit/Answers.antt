use Rattle.std.proofs.Common.{◌∙◌, sym, ap, arith, ◌+◌, add-one, drop, refl}
use Rattle.qd_sub.specs.Subscriptions.{least}
use Rattle.qd_slots.specs.Holds.{limits_of, lesser_of}
use Rattle.qd_slots.proofs.HoldLaws.{least-yes, least-no, least-end}
use Rattle.qd_slots.proofs.holds.least_limit.Goals as goal
use Rattle.qd_slots.proofs.holds.least_limit.Goals.{then-is_subscribed, else-is_subscribed}

pub loop-i-preserved : goal.loop-i-preserved
loop-i-preserved c =
    elim c.if-is_subscribed.branch [
      | then-is_subscribed w ↦ c.loop-i.invariant ∙ least-yes c.args.holds.now c.args.limits.now c.loop-i.i _ c.loop-i.best c.if-is_subscribed.best (omega arith) c.requires (sym c.is_subscribed.ensures ∙ w.if-is_subscribed.true) refl (w.best-is ∙ w.lesser.ensures)
          ∙ ap (λ n. lesser_of c.if-is_subscribed.best (least (limits_of (drop n c.args.holds.now) (drop n c.args.limits.now)))) (sym (add-one c.loop-i.i))
      | else-is_subscribed w ↦ c.loop-i.invariant ∙ least-no c.args.holds.now c.args.limits.now c.loop-i.i c.loop-i.best (omega arith) c.requires (sym c.is_subscribed.ensures ∙ w.if-is_subscribed.false)
          ∙ ap (λ n. lesser_of c.loop-i.best (least (limits_of (drop n c.args.holds.now) (drop n c.args.limits.now)))) (sym (add-one c.loop-i.i)) ∙ ap (λ o. lesser_of o (least (limits_of (drop (c.loop-i.i + 1) c.args.holds.now) (drop (c.loop-i.i + 1) c.args.limits.now)))) (sym w.best-is)
    ]

pub returns : goal.returns
returns c = sym (c.loop-i.invariant ∙ least-end c.args.holds.now c.args.limits.now c.loop-i.i c.loop-i.best (omega arith))
