use Rattle.qd_grammar.proofs.Three.{some, only}
use Rattle.qd_grammar.proofs.laws.one_of_three.Goals as goal

pub returns : goal.returns
returns c = record { some = some; only = only }
