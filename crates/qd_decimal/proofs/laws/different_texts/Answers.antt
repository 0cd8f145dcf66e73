use Rattle.qd_decimal.proofs.WholesAgain.{different_texts}
use Rattle.qd_decimal.proofs.laws.different_texts.Goals as goal

pub returns : goal.returns
returns c = different_texts
