use Rattle.std.proofs.Common.{sym, ap, ◌∙◌, ◌≡◌, ◌+◌, ◌-◌, ◌<◌, ◌≤◌, false, nat_lt, List, ◌∷◌, ◌++◌, [], length, subst, arith, slice_set, slice_index}
use Rattle.std.specs.Prelude.{slice_get, Some}
use Rattle.qd_stream.specs.declared.outbox.Waiting.{Waiting}
use Rattle.qd_stream.specs.Outboxes.{Outstanding, lost_by, with_lost, with_waiting, IsSound}
use Rattle.qd_pend.specs.Slots.{EachBelow}
use Rattle.qd_stream.proofs.OutboxLaws.{fits-more, sound-more, sound-over, let-go, let-none, lt-true, kept-more, kept-over, lt-false, view-more, view-over}
use Rattle.qd_stream.proofs.outbox.Outbox.push.Goals as goal

pub wait_more-requires-clause-fits : goal.wait_more-requires-clause-fits
wait_more-requires-clause-fits c = let o = c.self.inside in fits-more o.ring.capacity o.ring.items o.waits.items o.losses.items o.lossy.list o.lossy.slots c.args.slot c.self.invariant

-- the slot is one for which there is room
below : (c : goal.In-None) → c.args.slot < c.self.inside.lossy.slots
below c = subst (λ (v : Outstanding). c.args.slot < v.slots) (sym c.self.view_is) c.requires

pub invariant_of-self : goal.invariant_of-self
invariant_of-self c = let o = c.self.inside in
    let w : Waiting = record { slot = c.args.slot; item = c.args.item.now } in
    let few = lt-true (length o.ring.items) o.ring.capacity (let-none o.ring.capacity o.ring.items w (sym c.push_back.ensures.value ∙ c.in-None.is)) in
    rw (c.wait_more.ensures.counted, c.push_back.ensures.items)
    (subst (λ (ws : List Waiting). IsSound o.ring.capacity ws (slice_set o.waits.items c.args.slot (slice_index o.waits.items c.args.slot + 1)) o.losses.items o.lossy.list o.lossy.slots) (sym (kept-more o.ring.capacity o.ring.items w few))
    (sound-more o.ring.capacity o.ring.items o.waits.items o.losses.items o.lossy.list o.lossy.slots w c.self.invariant (below c) few))

module _ (c : goal.After-wait_less-arg-1) where
  abbrev one : Waiting
  one = record { slot = c.args.slot; item = c.args.item.now }

  abbrev let_go : (nat_lt (length c.self.inside.ring.items) c.self.inside.ring.capacity ≡ false) × (slice_get (c.self.inside.ring.items ++ one ∷ []) 0 ≡ Some c.in-Some.oldest)
  let_go = let-go c.self.inside.ring.capacity c.self.inside.ring.items one c.in-Some.oldest (sym c.push_back.ensures.value ∙ c.in-Some.is)

  abbrev here : c.args.slot < c.self.inside.lossy.slots
  here = subst (λ (v : Outstanding). c.args.slot < v.slots) (sym c.self.view_is) c.requires

pub wait_less-requires-clause-below : goal.wait_less-requires-clause-below
wait_less-requires-clause-below c = let o = c.self.inside in
    let all = sound-over o.ring.capacity o.ring.items o.waits.items o.losses.items o.lossy.list o.lossy.slots (one c) c.in-Some.oldest c.self.invariant (here c) (let_go c).1 c.wait_more.new.waits.items c.wait_more.ensures.counted in
    let first : c.in-Some.oldest.slot < length o.waits.items = all.0 in
    omega arith

pub wait_less-requires-clause-some : goal.wait_less-requires-clause-some
wait_less-requires-clause-some c = let o = c.self.inside in
    (sound-over o.ring.capacity o.ring.items o.waits.items o.losses.items o.lossy.list o.lossy.slots (one c) c.in-Some.oldest c.self.invariant (here c) (let_go c).1 c.wait_more.new.waits.items c.wait_more.ensures.counted).2

-- the slot of the oldest is one for which there is room
oldest-below : (c : goal.After-lose-arg-in-Some-1) → c.in-Some.oldest.slot < c.self.inside.lossy.slots
oldest-below c = let o = c.self.inside in
    let w : Waiting = record { slot = c.args.slot; item = c.args.item.now } in
    let slot : c.args.slot < o.lossy.slots = subst (λ (v : Outstanding). c.args.slot < v.slots) (sym c.self.view_is) c.requires in
    let gone = let-go o.ring.capacity o.ring.items w c.in-Some.oldest (sym c.push_back.ensures.value ∙ c.in-Some.is) in
    (sound-over o.ring.capacity o.ring.items o.waits.items o.losses.items o.lossy.list o.lossy.slots w c.in-Some.oldest c.self.invariant slot gone.1 c.wait_more.new.waits.items c.wait_more.ensures.counted).1

pub lose-requires-clause-below : goal.lose-requires-clause-below
lose-requires-clause-below c = let first = oldest-below c in let room = c.self.invariant.room.1 in omega arith

pub lose-requires-clause-listed : goal.lose-requires-clause-listed
lose-requires-clause-listed c = oldest-below c

pub invariant_of-self-in-Some : goal.invariant_of-self-in-Some
invariant_of-self-in-Some c = let o = c.self.inside in
    let w : Waiting = record { slot = c.args.slot; item = c.args.item.now } in
    let slot : c.args.slot < o.lossy.slots = subst (λ (v : Outstanding). c.args.slot < v.slots) (sym c.self.view_is) c.requires in
    let gone = let-go o.ring.capacity o.ring.items w c.in-Some.oldest (sym c.push_back.ensures.value ∙ c.in-Some.is) in
    let all = sound-over o.ring.capacity o.ring.items o.waits.items o.losses.items o.lossy.list o.lossy.slots w c.in-Some.oldest c.self.invariant slot gone.1 c.wait_more.new.waits.items c.wait_more.ensures.counted in
    let room = c.self.invariant.room.1 in
    let deep : o.lossy.slots ≤ length c.lose.new.losses.items = omega (arith, c.lose.ensures.len) in
    let listed = subst (λ n. EachBelow n c.lose.new.lossy.list) c.lose.ensures.slots (c.lose.ensures.listed c.self.invariant.below) in
    rw (c.wait_less.ensures.counted, c.push_back.ensures.items, c.lose.ensures.slots)
    (subst (λ (ws : List Waiting). IsSound o.ring.capacity ws (slice_set c.wait_more.new.waits.items c.in-Some.oldest.slot (slice_index c.wait_more.new.waits.items c.in-Some.oldest.slot - 1)) c.lose.new.losses.items c.lose.new.lossy.list o.lossy.slots)
    (sym (kept-over o.ring.capacity o.ring.items w c.self.invariant.within (lt-false (length o.ring.items) o.ring.capacity gone.0)))
    (all.3 c.lose.new.losses.items c.lose.new.lossy.list deep listed))

pub returns-in-None : goal.returns-in-None
returns-in-None c = let o = c.self.inside in
    let w : Waiting = record { slot = c.args.slot; item = c.args.item.now } in
    let v : Outstanding = record { cap = o.ring.capacity; items = o.ring.items; lost = lost_by o.losses.items o.lossy.list; slots = o.lossy.slots } in
    (λ i. let u : Outstanding = record { cap = (c.push_back.ensures.items i).capacity; items = (c.push_back.ensures.items i).items; lost = v.lost; slots = v.slots } in u)
    ∙ view-more v w (let-none o.ring.capacity o.ring.items w (sym c.push_back.ensures.value ∙ c.in-None.is))
    ∙ ap (λ (u : Outstanding). with_waiting u w) c.self.view_is

pub returns-in-Some : goal.returns-in-Some
returns-in-Some c = let o = c.self.inside in
    let w : Waiting = record { slot = c.args.slot; item = c.args.item.now } in
    let v : Outstanding = record { cap = o.ring.capacity; items = o.ring.items; lost = lost_by o.losses.items o.lossy.list; slots = o.lossy.slots } in
    let gone = let-go o.ring.capacity o.ring.items w c.in-Some.oldest (sym c.push_back.ensures.value ∙ c.in-Some.is) in
    let lost = c.lose.ensures.lost ∙ ap (with_lost v.lost c.in-Some.oldest.slot) c.weight-more.ensures in
    (λ i. let u : Outstanding = record { cap = (c.push_back.ensures.items i).capacity; items = (c.push_back.ensures.items i).items; lost = lost_by c.lose.new.losses.items c.lose.new.lossy.list; slots = c.lose.ensures.slots i } in u)
    ∙ view-over v w c.in-Some.oldest (lost_by c.lose.new.losses.items c.lose.new.lossy.list) c.self.invariant.within gone.0 gone.1 lost
    ∙ ap (λ (u : Outstanding). with_waiting u w) c.self.view_is
