use Rattle.std.proofs.Common.{drop}
use Rattle.qd_stream.specs.Stripes.{Shown}
use Rattle.qd_stream.specs.Steps.{PutsAll}
use Rattle.qd_stream.proofs.stripe.StreamStripe.put_all.Given as goal

abbrev pub invariant-loop-item : goal.invariant-loop-item
invariant-loop-item l = (fin : Shown) → PutsAll l.self (drop l.item-index l.items) fin → PutsAll l.initial.self l.items fin
