use Rattle.qd_grammar.proofs.CanonicalLaws.{canonical_spells, canonical_differs}
use Rattle.qd_grammar.proofs.laws.canonical_line.Goals as goal

pub returns : goal.returns
returns c = record { spells = canonical_spells; differs = canonical_differs }
