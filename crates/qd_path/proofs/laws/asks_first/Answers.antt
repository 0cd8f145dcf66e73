use Rattle.qd_path.proofs.Asking.{asks_first}
use Rattle.qd_path.proofs.laws.asks_first.Goals as goal

pub returns : goal.returns
returns c = asks_first
