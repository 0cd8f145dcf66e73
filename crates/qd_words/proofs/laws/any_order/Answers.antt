use Rattle.qd_words.proofs.WordLaws.{any_order as law}
use Rattle.qd_words.proofs.laws.any_order.Goals as goal

pub returns : goal.returns
returns c = law
