use Rattle.qd_words.proofs.WordLaws.{any_order_of_a_server as law}
use Rattle.qd_words.proofs.laws.any_order_of_a_server.Goals as goal

pub returns : goal.returns
returns c = law
