use Rattle.qd_decimal.proofs.WholesAgain.{count_again}
use Rattle.qd_decimal.proofs.laws.count_again.Goals as goal

pub returns : goal.returns
returns c = count_again
