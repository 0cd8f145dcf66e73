use Rattle.qd_grammar.proofs.Three.{spells_one, has_one_fault}
use Rattle.qd_grammar.proofs.laws.one_item.Goals as goal

pub returns : goal.returns
returns c = record { item = spells_one; fault = has_one_fault }
