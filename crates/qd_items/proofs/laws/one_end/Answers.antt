use Rattle.qd_items.proofs.DecidingLaws.{one_end}
use Rattle.qd_items.proofs.laws.one_end.Goals as goal

pub returns : goal.returns
returns c = one_end
