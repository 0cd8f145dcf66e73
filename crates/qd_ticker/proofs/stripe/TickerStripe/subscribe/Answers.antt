use Rattle.std.proofs.Common.{arith, sym, subst}
use Rattle.qd_ticker.specs.Steps.{HasRoom}
use Rattle.qd_ticker.proofs.SoundLaws.{sound-subscribed}
use Rattle.qd_ticker.proofs.stripe.TickerStripe.subscribe.Goals as goal

pub invariant_of-self : goal.invariant_of-self
invariant_of-self c =
    let room = subst (λ s. HasRoom s c.args.agent) (sym c.self.view_is) c.requires.room in
    sound-subscribed c.self.inside.table c.subscribe-slot.new.self c.self.inside.lasts.items c.self.inside.queues.items c.queue_slot.new.queues.items c.args.agent c.get-number.result c.subscribe-slot.result 0 c.args.key.now c.self.invariant c.subscribe-slot.ensures room.lasts room.queue c.get-number.ensures.value (omega (arith, c.get-number.ensures.within)) c.queue_slot.ensures.items
