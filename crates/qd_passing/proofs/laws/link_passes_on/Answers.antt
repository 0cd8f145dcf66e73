use Rattle.qd_passing.proofs.Passes.{records_pass, items_pass, events_pass}
use Rattle.qd_passing.proofs.laws.link_passes_on.Goals as goal

pub returns-clause-records : goal.returns-clause-records
returns-clause-records c = records_pass

pub returns-clause-items : goal.returns-clause-items
returns-clause-items c = items_pass

pub returns-clause-events : goal.returns-clause-events
returns-clause-events c = events_pass
