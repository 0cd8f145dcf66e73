use Rattle.qd_hist_feed.proofs.Due.{owed_behind}
use Rattle.qd_hist_feed.proofs.laws.owed_is_behind.Goals as goal

pub returns : goal.returns
returns c = record { behind = owed_behind }
