use Rattle.qd_line.proofs.LineLaws.{any_cutting}
use Rattle.qd_line.proofs.laws.any_cutting.Goals as goal

pub returns : goal.returns
returns c = any_cutting
