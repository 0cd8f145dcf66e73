use Rattle.std.proofs.Common.{ap, ◌∙◌}
use Rattle.qd_slots.specs.Holds.{is_subscribed}
use Rattle.qd_table.specs.Tables.{hold_for}
use Rattle.qd_table.proofs.TableLaws.{key_at-subscribed}
use Rattle.qd_hist_stand.specs.Stripes.{Shown}
use Rattle.qd_history.proofs.stripe.HistoryStripe.end.Goals as goal

pub clear-requires : goal.clear-requires
clear-requires c =
    let key = key_at-subscribed c.self.inside.table c.args.agent c.args.slot c.slots-slots.ensures.sound (ap (λ (s : Shown). is_subscribed (hold_for s.table c.args.agent c.args.slot)) c.self.view_is ∙ c.requires) in
    c.self.invariant.placed.tracks c.args.slot key.0 key.1
