use Rattle.qd_line.proofs.LineLaws.{no_line_left}
use Rattle.qd_line.proofs.laws.no_line_left.Goals as goal

pub returns : goal.returns
returns c = no_line_left
