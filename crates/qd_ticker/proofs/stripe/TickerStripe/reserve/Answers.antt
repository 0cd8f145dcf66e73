use Rattle.qd_ticker.proofs.SoundLaws.{sound-lasts}
use Rattle.qd_ticker.proofs.stripe.TickerStripe.reserve.Goals as goal

pub invariant_of-self : goal.invariant_of-self
invariant_of-self c = sound-lasts c.self.inside.table c.self.inside.lasts.items c.reserve_lasts.new.lasts.items c.self.inside.queues.items c.self.invariant c.reserve_lasts.ensures.kept
