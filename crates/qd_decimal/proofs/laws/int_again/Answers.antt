use Rattle.qd_decimal.proofs.WholesAgain.{int_again}
use Rattle.qd_decimal.proofs.laws.int_again.Goals as goal

pub returns : goal.returns
returns c = int_again
