use Rattle.qd_path.proofs.Together.{comes_together}
use Rattle.qd_path.proofs.laws.comes_together.Goals as goal

pub returns : goal.returns
returns g c = comes_together g.T.Keyed.key_of
