use Rattle.std.proofs.Common.{◌≡◌, List, length}
use Rattle.qd_history.specs.Steps.{Gift, GivesEach, last_slot, items_of}
use Rattle.qd_history.proofs.stripe.HistoryStripe.take.Given as goal

abbrev pub invariant-loop-i : goal.invariant-loop-i
invariant-loop-i l = record {
  given : (gs : List Gift) × GivesEach l.initial.self l.agent gs l.self × (l.out.items ≡ items_of gs) × (length gs ≡ l._i) × (l.last ≡ last_slot gs);
  room : l.out.room ≡ l.initial.out.room;
}
