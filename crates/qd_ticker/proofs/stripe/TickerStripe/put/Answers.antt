use Rattle.std.proofs.Common.{arith}
use Rattle.qd_ticker.proofs.SoundLaws.{sound-put}
use Rattle.qd_ticker.proofs.stripe.TickerStripe.put.Goals as goal

pub invariant_of-self : goal.invariant_of-self
invariant_of-self c =
    sound-put c.self.inside.table c.self.inside.lasts.items c.set_last.new.lasts.items c.self.inside.queues.items c.queue_for_all.new.queues.items c.in-Some.slot c.self.invariant (omega (arith, c.queue_for_all.ensures.len, c.queue_for_all.new.queues.ok, c.self.inside.queues.ok)) (omega (arith, c.set_last.ensures.len, c.set_last.new.lasts.ok, c.self.inside.lasts.ok)) c.queue_for_all.ensures.queues
