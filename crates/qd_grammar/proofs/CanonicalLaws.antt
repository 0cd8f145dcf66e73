-- The canonical line of an item spells it wherever any line does, and different items have different ones.
use Rattle.std.proofs.Common.{ℕ, List, subst}
use Rattle.qd_grammar.specs.Canonical.{canonical}
use Rattle.qd_grammar.specs.Lines.{Spells}
use Rattle.qd_grammar.specs.Laws.{CanonicalSpells, CanonicalDiffers}
use Rattle.qd_grammar.proofs.Three.{spells_one}
use Rattle.qd_grammar.proofs.EachItem.{each_spells}
use Rattle.qd_grammar.proofs.OnlyItems.{spells_items}

pub canonical_spells : CanonicalSpells
canonical_spells mode s defs line item is h = let there = spells_items mode s defs line item h in each_spells mode s defs item is there.0 there.1

pub canonical_differs : CanonicalDiffers
canonical_differs mode s defs v u a b is p q e =
    spells_one mode s defs (canonical defs b) a b (subst (λ (l : List ℕ). Spells mode s defs l a) e (canonical_spells mode s defs v a is p)) (canonical_spells mode s defs u b is q)
