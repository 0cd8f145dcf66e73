use Rattle.qd_decimal.proofs.Shortest.{one_canonical}
use Rattle.qd_decimal.proofs.laws.one_canonical.Goals as goal

pub returns : goal.returns
returns c = one_canonical
