use Rattle.std.proofs.Common.{ℕ, length}
use Rattle.qd_table.specs.Tables.{order_of}
use Rattle.qd_hist_stand.specs.Stripes.{Shown}
use Rattle.qd_history.specs.Steps.{EndsAll}
use Rattle.qd_history.proofs.stripe.HistoryStripe.close.Given as goal

abbrev pub invariant-loop-slot : goal.invariant-loop-slot
invariant-loop-slot l = (n : ℕ) (fin : Shown) → EndsAll n l.self l.agent fin → (m : ℕ) × EndsAll m l.initial.self l.agent fin

abbrev pub decreases-loop-slot : goal.decreases-loop-slot
decreases-loop-slot l = length (order_of l.self.table l.agent)
