use Rattle.std.proofs.Common.{◌≡◌, ◌-◌, ◌++◌, ◌≤◌, List, length}
use Rattle.qd_stream.specs.declared.item.StreamItem.{StreamItem}
use Rattle.qd_stream.specs.Stripes.{Shown}
use Rattle.qd_stream.specs.Steps.{GivesAll}
use Rattle.qd_stream.proofs.stripe.StreamStripe.take.Given as goal

abbrev pub invariant-loop-i : goal.invariant-loop-i
invariant-loop-i l = record {
  given : (items : List StreamItem) (fin : Shown) → GivesAll (l.most - l._i) l.self l.agent items fin → GivesAll l.most l.initial.self l.agent (l.out.items ++ items) fin;
  few : length l.out.items ≤ l._i;
  room : l.out.room ≡ l.initial.out.room;
}
