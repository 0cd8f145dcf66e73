use Rattle.std.proofs.Common.{◌<◌, length, sym, ◌∙◌, arith}
use Rattle.qd_stream.proofs.OutboxLaws.{sound-pop}
use Rattle.qd_stream.proofs.outbox.Outbox.pop_item.Goals as goal

pub wait_less-requires-clause-below : goal.wait_less-requires-clause-below
wait_less-requires-clause-below c = let o = c.self.inside in
    let below : c.in-Some.oldest.slot < length o.waits.items = (sound-pop o.ring.capacity o.ring.items o.waits.items o.losses.items o.lossy.list o.lossy.slots c.in-Some.oldest c.self.invariant (sym c.pop_front.ensures.value ∙ c.in-Some.is)).0 in
    omega arith

pub wait_less-requires-clause-some : goal.wait_less-requires-clause-some
wait_less-requires-clause-some c = let o = c.self.inside in
    (sound-pop o.ring.capacity o.ring.items o.waits.items o.losses.items o.lossy.list o.lossy.slots c.in-Some.oldest c.self.invariant (sym c.pop_front.ensures.value ∙ c.in-Some.is)).1

pub invariant_of-self-in-Some : goal.invariant_of-self-in-Some
invariant_of-self-in-Some c = let o = c.self.inside in
    rw (c.wait_less.ensures.counted, c.pop_front.ensures.items)
    ((sound-pop o.ring.capacity o.ring.items o.waits.items o.losses.items o.lossy.list o.lossy.slots c.in-Some.oldest c.self.invariant (sym c.pop_front.ensures.value ∙ c.in-Some.is)).2)
