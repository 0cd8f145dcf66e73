use Rattle.qd_items.proofs.EveryText.{some_end}
use Rattle.qd_items.proofs.laws.some_end.Goals as goal

pub returns : goal.returns
returns c = some_end
