use Rattle.qd_hist_feed.proofs.Due.{due_is}
use Rattle.qd_hist_feed.proofs.laws.due_is_not_done.Goals as goal

pub returns : goal.returns
returns c = record { due = due_is }
