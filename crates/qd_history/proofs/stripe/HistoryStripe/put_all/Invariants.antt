use Rattle.std.proofs.Common.{drop}
use Rattle.qd_hist_stand.specs.Stripes.{Shown}
use Rattle.qd_history.specs.Rooms.{CanPut}
use Rattle.qd_history.specs.Steps.{PutsAll}
use Rattle.qd_history.proofs.stripe.HistoryStripe.put_all.Given as goal

abbrev pub invariant-loop-e : goal.invariant-loop-e
invariant-loop-e l = record {
  put : (fin : Shown) → PutsAll l.self (drop l.e-index l.items) fin → PutsAll l.initial.self l.items fin;
  can : CanPut l.self (drop l.e-index l.items);
}
