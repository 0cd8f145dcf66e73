use Rattle.qd_path.proofs.Spelled.{none_foreign}
use Rattle.qd_path.proofs.laws.none_foreign.Goals as goal

pub returns : goal.returns
returns c = none_foreign
