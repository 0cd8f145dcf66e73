use Rattle.qd_hist_stand.specs.Stripes.{Stands, terms_in}
use Rattle.qd_hist_rules.specs.Legal.{terms_of}
use Rattle.qd_hub.specs.Owns.{AllNew}
use Rattle.qd_hub.proofs.make.history_states.Given as goal

abbrev pub invariant-loop-stripe : goal.invariant-loop-stripe
invariant-loop-stripe l = AllNew Stands terms_in l._stripe (terms_of l.fn.hcap 0) l.states.items
