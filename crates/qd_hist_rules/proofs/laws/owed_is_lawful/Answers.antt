use Rattle.qd_hist_rules.proofs.EndedFit.{owed_lawful}
use Rattle.qd_hist_rules.proofs.laws.owed_is_lawful.Goals as goal

pub returns : goal.returns
returns c = record { owed = owed_lawful }
