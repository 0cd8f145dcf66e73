use Rattle.qd_words.proofs.WordLaws.{value_behind_equals as law}
use Rattle.qd_words.proofs.laws.value_behind_equals.Goals as goal

pub returns : goal.returns
returns c = law
