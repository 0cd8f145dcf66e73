use Rattle.qd_hist_stand.proofs.Give.{given-at, given-lawful}
use Rattle.qd_hist_stand.proofs.Given.{stands-given}
use Rattle.qd_hist_stand.proofs.Turn.{stands-turned}
use Rattle.qd_hist_stand.proofs.Take.{take-lawful}
use Rattle.qd_hist_stand.proofs.laws.take_stands.Goals as goal

pub returns-clause-given : goal.returns-clause-given
returns-clause-given c = λ s t a slot i now st g. (given-at s t a slot i now st g, (given-lawful s t a slot i now st g).0, stands-given s t a slot i now st g)

pub returns-clause-turned : goal.returns-clause-turned
returns-clause-turned c = stands-turned

pub returns-clause-lawful : goal.returns-clause-lawful
returns-clause-lawful c = take-lawful
