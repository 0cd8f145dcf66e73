use Rattle.qd_ticker.specs.Stripes.{Shown, Stands}
use Rattle.qd_ticker.specs.Legal.{no_terms}
use Rattle.qd_hub.specs.Owns.{AllNew}
use Rattle.qd_hub.proofs.make.ticker_states.Given as goal

abbrev pub invariant-loop-stripe : goal.invariant-loop-stripe
invariant-loop-stripe l = AllNew Stands (λ (s : Shown). no_terms) l._stripe no_terms l.states.items
