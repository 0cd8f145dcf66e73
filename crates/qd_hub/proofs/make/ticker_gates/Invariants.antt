use Rattle.qd_ticker.specs.Legal.{no_terms}
use Rattle.qd_hub.specs.Clients.{AreFirst}
use Rattle.qd_hub.proofs.make.ticker_gates.Given as goal

abbrev pub invariant-loop-stripe : goal.invariant-loop-stripe
invariant-loop-stripe l = AreFirst l.row l._stripe no_terms l.passes
