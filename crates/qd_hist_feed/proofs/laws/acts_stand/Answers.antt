use Rattle.std.proofs.Common.{refl}
use Rattle.qd_hist_feed.proofs.Sweeping.{quiet_stands, update_stands, waiting_stays}
use Rattle.qd_hist_feed.proofs.laws.acts_stand.Goals as goal

pub returns-clause-quiet : goal.returns-clause-quiet
returns-clause-quiet c = quiet_stands

pub returns-clause-update : goal.returns-clause-update
returns-clause-update c = update_stands

pub returns-clause-waiting : goal.returns-clause-waiting
returns-clause-waiting c = λ terms a k act past ng h. (refl, waiting_stays terms a k act past ng h.1)

pub returns-clause-restart : goal.returns-clause-restart
returns-clause-restart c = λ terms a k now h. (refl, h)
