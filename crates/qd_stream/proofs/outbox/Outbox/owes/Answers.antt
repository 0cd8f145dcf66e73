use Rattle.std.proofs.Common.{ap, sym, ◌∙◌, ◌||◌, nat_lt, slice_index}
use Rattle.qd_stream.specs.Outboxes.{Outstanding, owes_slot}
use Rattle.qd_stream.proofs.OutboxLaws.{owes-counted}
use Rattle.qd_stream.proofs.outbox.Outbox.owes.Goals as goal

pub returns-then-contains : goal.returns-then-contains
returns-then-contains c = let o = c.self.inside in
    c.if-contains.true
    ∙ ap (λ b. b || nat_lt 0 (slice_index o.waits.items c.args.slot)) (sym c.if-contains.true ∙ c.contains.ensures)
    ∙ owes-counted o.ring.capacity o.ring.items o.waits.items o.losses.items o.lossy.list o.lossy.slots c.args.slot c.self.invariant
    ∙ ap (λ (v : Outstanding). owes_slot v c.args.slot) c.self.view_is

pub returns-else-contains : goal.returns-else-contains
returns-else-contains c = let o = c.self.inside in
    ap (nat_lt 0) c.count_at.ensures
    ∙ ap (λ b. b || nat_lt 0 (slice_index o.waits.items c.args.slot)) (sym c.if-contains.false ∙ c.contains.ensures)
    ∙ owes-counted o.ring.capacity o.ring.items o.waits.items o.losses.items o.lossy.list o.lossy.slots c.args.slot c.self.invariant
    ∙ ap (λ (v : Outstanding). owes_slot v c.args.slot) c.self.view_is
