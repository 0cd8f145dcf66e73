use Rattle.qd_line.proofs.LineLaws.{too_long_stays}
use Rattle.qd_line.proofs.laws.too_long_stays.Goals as goal

pub returns : goal.returns
returns c = too_long_stays
