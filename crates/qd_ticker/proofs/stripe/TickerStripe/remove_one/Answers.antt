use Rattle.std.proofs.Common.{sym, ◌∙◌, ap}
use Rattle.qd_slots.specs.Holds.{is_subscribed}
use Rattle.qd_table.specs.Tables.{slot_for, hold_for}
use Rattle.qd_ticker.proofs.WayLaws.{removes-yes, removes-no, removes-none}
use Rattle.qd_ticker.proofs.stripe.TickerStripe.remove_one.Goals as goal

pub returns-then-is_subscribed : goal.returns-then-is_subscribed
returns-then-is_subscribed c =
    removes-yes c.args.self.now c.end.new.self c.args.agent c.in-Some.slot c.args.key.now (ap (λ s. slot_for s.table c.args.key.now) (sym c.self.view_is) ∙ sym c.in-Some.ensures.slot)
    (ap (λ s. is_subscribed (hold_for s.table c.args.agent c.in-Some.slot)) (sym c.self.view_is) ∙ sym c.is_subscribed.ensures ∙ c.if-is_subscribed.true) c.end.ensures

pub returns-else-is_subscribed : goal.returns-else-is_subscribed
returns-else-is_subscribed c =
    removes-no c.args.self.now c.args.agent c.in-Some.slot c.args.key.now (ap (λ s. slot_for s.table c.args.key.now) (sym c.self.view_is) ∙ sym c.in-Some.ensures.slot)
    (ap (λ s. is_subscribed (hold_for s.table c.args.agent c.in-Some.slot)) (sym c.self.view_is) ∙ sym c.is_subscribed.ensures ∙ c.if-is_subscribed.false)

pub returns-in_default : goal.returns-in_default
returns-in_default c = removes-none c.args.self.now c.args.agent c.args.key.now (ap (λ s. slot_for s.table c.args.key.now) (sym c.self.view_is) ∙ sym c.in_default.ensures.slot)
