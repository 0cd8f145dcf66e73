use Rattle.std.proofs.Common.{ap, sym, ◌∙◌, subst}
use Rattle.qd_pend.specs.Slots.{SlotList}
use Rattle.std.specs.Prelude.{Some}
use Rattle.qd_stream.specs.declared.outbox.SlotLoss.{SlotLoss}
use Rattle.qd_stream.specs.Outboxes.{Outstanding, first_of, IsSound}
use Rattle.qd_stream.proofs.OutboxLaws.{sound-report, lost-first, lost-none}
use Rattle.qd_stream.proofs.outbox.Outbox.pop_loss.Goals as goal
use Rattle.qd_stream.proofs.outbox.Outbox.pop_loss.Goals.{in-None, in-Some}

pub invariant_of-self : goal.invariant_of-self
invariant_of-self c = let o = c.self.inside in
    subst (λ (q : SlotList). IsSound o.ring.capacity o.ring.items o.waits.items o.losses.items q.list q.slots) (sym c.pop_front.ensures.after)
    (sound-report o.ring.capacity o.ring.items o.waits.items o.losses.items o.lossy.list o.lossy.slots c.self.invariant)

pub returns-clause-value : goal.returns-clause-value
returns-clause-value c = let o = c.self.inside in
    elim c.match-pop_front.branch [
      | in-None w ↦ w.result-is ∙ (sym (lost-none o.losses.items o.lossy.list (sym c.pop_front.ensures.first ∙ w.in-None.is)) ∙ ap (λ (v : Outstanding). first_of v.lost) c.self.view_is)
      | in-Some w ↦ w.result-is ∙ (λ i. Some (let l : SlotLoss = record { slot = w.in-Some.slot; count = w.count_at.ensures i } in l)) ∙ (sym (lost-first o.losses.items o.lossy.list w.in-Some.slot (sym c.pop_front.ensures.first ∙ w.in-Some.is)) ∙ ap (λ (v : Outstanding). first_of v.lost) c.self.view_is)
    ]
