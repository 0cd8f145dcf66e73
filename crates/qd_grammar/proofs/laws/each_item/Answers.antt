use Rattle.qd_grammar.proofs.EachItem.{each_spells, each_fits}
use Rattle.qd_grammar.proofs.OnlyItems.{spells_items}
use Rattle.qd_grammar.proofs.laws.each_item.Goals as goal

pub returns : goal.returns
returns c = record { spells = each_spells; fits = each_fits; only = spells_items }
