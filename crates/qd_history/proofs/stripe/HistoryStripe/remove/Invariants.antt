use Rattle.std.proofs.Common.{drop}
use Rattle.qd_hist_stand.specs.Stripes.{Shown}
use Rattle.qd_history.specs.Steps.{RemovesAll}
use Rattle.qd_history.proofs.stripe.HistoryStripe.remove.Given as goal

abbrev pub invariant-loop-key : goal.invariant-loop-key
invariant-loop-key l = (fin : Shown) → RemovesAll l.self l.agent (drop l.key-index l.keys) fin → RemovesAll l.initial.self l.agent l.keys fin
