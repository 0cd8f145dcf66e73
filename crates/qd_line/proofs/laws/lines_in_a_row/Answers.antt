use Rattle.qd_line.proofs.LineLaws.{lines_in_a_row}
use Rattle.qd_line.proofs.laws.lines_in_a_row.Goals as goal

pub returns : goal.returns
returns c = lines_in_a_row
