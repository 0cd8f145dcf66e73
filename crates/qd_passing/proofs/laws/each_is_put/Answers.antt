use Rattle.qd_passing.proofs.Sorts.{records_put, items_put, events_put}
use Rattle.qd_passing.proofs.laws.each_is_put.Goals as goal

pub returns-clause-records : goal.returns-clause-records
returns-clause-records c = records_put

pub returns-clause-items : goal.returns-clause-items
returns-clause-items c = items_put

pub returns-clause-events : goal.returns-clause-events
returns-clause-events c = events_put
