use Rattle.qd_hist_rules.specs.Legal.{terms_of}
use Rattle.qd_hub.specs.Clients.{AreFirst}
use Rattle.qd_hub.proofs.make.history_gates.Given as goal

abbrev pub invariant-loop-stripe : goal.invariant-loop-stripe
invariant-loop-stripe l = AreFirst l.row l._stripe (terms_of l.fn.hcap 0) l.passes
