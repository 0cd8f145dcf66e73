use Rattle.qd_hist_rules.proofs.LastMade.{owed_makes_last}
use Rattle.qd_hist_rules.proofs.laws.owed_makes_last.Goals as goal

pub returns : goal.returns
returns c = record { makes = owed_makes_last }
