use Rattle.std.proofs.Common.{arith, ap, ◌∙◌, slice_set}
use Rattle.qd_ticker.specs.Stripes.{queue_at}
use Rattle.qd_ticker.specs.Steps.{with_popped}
use Rattle.qd_ticker.proofs.SoundLaws.{sound-popped}
use Rattle.qd_ticker.proofs.stripe.TickerStripe.take_first.Goals as goal

pub invariant_of-self : goal.invariant_of-self
invariant_of-self c =
    sound-popped c.self.inside.table c.self.inside.lasts.items c.self.inside.queues.items c.pop_slot.new.queues.items c.args.agent c.self.invariant (omega (arith, c.get.ensures.within))
    (c.pop_slot.ensures.items ∙ ap (λ n. slice_set c.self.inside.queues.items n (with_popped (queue_at c.self.inside.queues.items n))) c.get.ensures.value)
