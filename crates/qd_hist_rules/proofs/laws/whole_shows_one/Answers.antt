use Rattle.qd_hist_rules.proofs.OneLog.{history}
use Rattle.qd_hist_rules.proofs.laws.whole_shows_one.Goals as goal

pub returns : goal.returns
returns c = record { shows = history }
