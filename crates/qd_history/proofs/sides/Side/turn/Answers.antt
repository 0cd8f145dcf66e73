use Rattle.std.proofs.Common.{◌∙◌, ◌++◌, ◌∷◌, [], sym, ap}
use Rattle.qd_pend.specs.Slots.{SlotList, has}
use Rattle.qd_pend.proofs.ListLaws.{has-without_same}
use Rattle.qd_slots.specs.Views.{queued_again}
use Rattle.qd_hist_stand.specs.Stripes.{Side}
use Rattle.qd_history.proofs.OwedLaws.{again-there, again-none}
use Rattle.qd_history.proofs.sides.Side.turn.Goals as goal

pub push_back-requires-clause-absent : goal.push_back-requires-clause-absent
push_back-requires-clause-absent c = ap (λ (q : SlotList). has q.list c.args.slot) c.remove.ensures.after ∙ has-without_same c.self.inside.queue.list c.args.slot

pub returns-then-remove-clause-queue : goal.returns-then-remove-clause-queue
returns-then-remove-clause-queue c =
    ap (λ (q : SlotList). q.list) c.push_back.ensures ∙ ap (λ (q : SlotList). q.list ++ c.args.slot ∷ []) c.remove.ensures.after
    ∙ sym (again-there c.self.inside.queue.list c.args.slot (sym c.remove.ensures.found ∙ c.if-remove.true)) ∙ ap (λ (s : Side). queued_again s.queue.list c.args.slot (has s.queue.list c.args.slot)) c.self.view_is

pub returns-else-remove-clause-queue : goal.returns-else-remove-clause-queue
returns-else-remove-clause-queue c =
    ap (λ (q : SlotList). q.list) c.remove.ensures.after
    ∙ sym (again-none c.self.inside.queue.list c.args.slot (sym c.remove.ensures.found ∙ c.if-remove.false)) ∙ ap (λ (s : Side). queued_again s.queue.list c.args.slot (has s.queue.list c.args.slot)) c.self.view_is
