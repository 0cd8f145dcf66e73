use Rattle.qd_line.proofs.LineLaws.{lines_given}
use Rattle.qd_line.proofs.laws.lines_given.Goals as goal

pub returns : goal.returns
returns c = lines_given
