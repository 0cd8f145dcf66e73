use Rattle.std.proofs.Common.{arith, ap, ◌∙◌, slice_set}
use Rattle.qd_ticker.specs.Stripes.{queue_at}
use Rattle.qd_ticker.specs.Steps.{with_dropped}
use Rattle.qd_ticker.proofs.SoundLaws.{sound-ended}
use Rattle.qd_ticker.proofs.stripe.TickerStripe.end.Goals as goal

pub invariant_of-self : goal.invariant_of-self
invariant_of-self c =
    sound-ended c.self.inside.table c.end.new.self c.self.inside.lasts.items c.drop_last.new.lasts.items c.self.inside.queues.items c.drop_slot.new.queues.items c.args.agent c.args.slot c.self.invariant c.end.ensures.ended (omega (arith, c.get.ensures.within)) (omega (arith, c.drop_last.ensures.len, c.drop_last.new.lasts.ok, c.self.inside.lasts.ok))
    (c.drop_slot.ensures.items ∙ ap (λ n. slice_set c.self.inside.queues.items n (with_dropped (queue_at c.self.inside.queues.items n) c.args.slot)) c.get.ensures.value)
