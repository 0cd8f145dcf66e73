use Rattle.qd_line.proofs.LineLaws.{one_answer}
use Rattle.qd_line.proofs.laws.one_answer.Goals as goal

pub returns : goal.returns
returns c = one_answer
