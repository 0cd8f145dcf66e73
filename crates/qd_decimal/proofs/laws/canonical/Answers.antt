use Rattle.qd_decimal.proofs.Shortest.{canonical}
use Rattle.qd_decimal.proofs.laws.canonical.Goals as goal

pub returns : goal.returns
returns c = canonical
