use Rattle.qd_items.proofs.DecidingLaws.{decided_end}
use Rattle.qd_items.proofs.laws.decided_end.Goals as goal

pub returns : goal.returns
returns c = decided_end
