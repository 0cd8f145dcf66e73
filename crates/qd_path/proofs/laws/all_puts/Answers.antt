use Rattle.qd_path.proofs.Heads.{all_puts}
use Rattle.qd_path.proofs.laws.all_puts.Goals as goal

pub returns : goal.returns
returns c = all_puts
