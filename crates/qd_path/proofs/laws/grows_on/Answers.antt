use Rattle.qd_path.proofs.Adding.{grows_on}
use Rattle.qd_path.proofs.laws.grows_on.Goals as goal

pub returns : goal.returns
returns c = grows_on
