use Rattle.std.proofs.Common.{suc, ap, sym, ◌∙◌}
use Rattle.qd_pend.specs.Slots.{first_in}
use Rattle.qd_table.specs.Tables.{order_of}
use Rattle.qd_hist_stand.specs.Stripes.{Shown}
use Rattle.qd_history.proofs.WalkLaws.{ends-more, ends-end, ends-shorter}
use Rattle.qd_history.proofs.stripe.HistoryStripe.close.Goals as goal

pub loop-slot-preserved : goal.loop-slot-preserved
loop-slot-preserved c = λ n fin more.
    let first = ap (λ (s : Shown). first_in (order_of s.table c.args.agent)) (sym c.self.view_is) ∙ sym c.first_slot.ensures.first ∙ c.in-Some.is in
    c.loop-slot.invariant (suc n) fin (ends-more n c.loop-slot.self c.end.new.self fin c.args.agent c.in-Some.slot first c.end.ensures more)

pub loop-slot-smaller : goal.loop-slot-smaller
loop-slot-smaller c =
    let first = ap (λ (s : Shown). first_in (order_of s.table c.args.agent)) (sym c.self.view_is) ∙ sym c.first_slot.ensures.first ∙ c.in-Some.is in
    ends-shorter c.loop-slot.self c.end.new.self c.args.agent c.in-Some.slot first c.end.ensures

pub returns : goal.returns
returns c =
    let first = ap (λ (s : Shown). first_in (order_of s.table c.args.agent)) (sym c.self.view_is) ∙ sym c.first_slot.ensures.first ∙ c.in_default.is in
    c.loop-slot.invariant 0 c.loop-slot.self (ends-end c.loop-slot.self c.args.agent first)
