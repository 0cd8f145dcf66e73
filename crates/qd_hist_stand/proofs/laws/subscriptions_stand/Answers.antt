use Rattle.qd_hist_stand.proofs.Subscribing.{subscribing-stands}
use Rattle.qd_hist_stand.proofs.Dropping.{dropping-stands}
use Rattle.qd_hist_stand.proofs.Idle.{closed-stands, telling-stands}
use Rattle.qd_hist_stand.proofs.laws.subscriptions_stand.Goals as goal

pub returns-clause-subscribing : goal.returns-clause-subscribing
returns-clause-subscribing c = subscribing-stands

pub returns-clause-dropped : goal.returns-clause-dropped
returns-clause-dropped c = dropping-stands

pub returns-clause-closed : goal.returns-clause-closed
returns-clause-closed c = closed-stands

pub returns-clause-telling : goal.returns-clause-telling
returns-clause-telling c = telling-stands
