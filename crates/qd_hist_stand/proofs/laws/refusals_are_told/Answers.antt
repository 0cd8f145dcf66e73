use Rattle.qd_hist_stand.proofs.Refusals.{full-told, spent-told, fault-told}
use Rattle.qd_hist_stand.proofs.laws.refusals_are_told.Goals as goal

pub returns-clause-full : goal.returns-clause-full
returns-clause-full c = full-told

pub returns-clause-spent : goal.returns-clause-spent
returns-clause-spent c = spent-told

pub returns-clause-fault : goal.returns-clause-fault
returns-clause-fault c = fault-told
