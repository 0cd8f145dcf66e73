use Rattle.qd_decimal.proofs.Again.{again}
use Rattle.qd_decimal.proofs.laws.dec_again.Goals as goal

pub returns : goal.returns
returns c = again
