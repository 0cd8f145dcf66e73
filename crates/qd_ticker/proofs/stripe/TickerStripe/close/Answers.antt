use Rattle.std.proofs.Common.{ap, sym, ◌∙◌}
use Rattle.qd_pend.specs.Slots.{first_in}
use Rattle.qd_slots.specs.Holds.{is_subscribed}
use Rattle.qd_table.specs.Tables.{order_of, hold_for}
use Rattle.qd_ticker.proofs.WayLaws.{close_lead, close-next, close-end, close-shorter, dropped-order}
use Rattle.qd_ticker.proofs.stripe.TickerStripe.close.Goals as goal

pub loop-slot-smaller : goal.loop-slot-smaller
loop-slot-smaller c =
    let first = c.in-Some.ensures.first ∙ ap (λ s. first_in (order_of s.table c.args.agent)) c.self.view_is in
    close-shorter (order_of c.loop-slot.self.table c.args.agent) (order_of c.end.new.self.table c.args.agent) c.in-Some.slot first (dropped-order c.loop-slot.self c.end.new.self c.args.agent c.in-Some.slot c.end.ensures)

pub loop-slot-preserved : goal.loop-slot-preserved
loop-slot-preserved c now st =
    let first = c.in-Some.ensures.first ∙ ap (λ s. first_in (order_of s.table c.args.agent)) c.self.view_is in
    let has_it = ap (λ s. is_subscribed (hold_for s.table c.args.agent c.in-Some.slot)) (sym c.self.view_is) ∙ c.in-Some.ensures.subscribed in
    close-next c.loop-slot.self c.end.new.self c.args.agent c.in-Some.slot (close_lead c.args.agent now) first has_it c.end.ensures (c.loop-slot.invariant now st)

pub returns : goal.returns
returns c now st =
    let first = c.in_default.ensures.first ∙ ap (λ s. first_in (order_of s.table c.args.agent)) c.self.view_is in
    close-end c.loop-slot.self c.args.agent (close_lead c.args.agent now) first (c.loop-slot.invariant now st)
