use Rattle.qd_path.proofs.Asking.{asks_for_one}
use Rattle.qd_path.proofs.laws.asks_for_one.Goals as goal

pub returns : goal.returns
returns c = asks_for_one
