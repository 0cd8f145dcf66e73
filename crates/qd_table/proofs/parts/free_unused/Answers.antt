use Rattle.std.proofs.Common.{◌≡◌, ◌∙◌, sym, ap, arith, Some, length}
use Rattle.qd_slots.specs.Names.{name_at, named_in}
use Rattle.qd_slots.proofs.NameLaws.{named-less}
use Rattle.qd_table.proofs.CellSteps.{name-within}
use Rattle.qd_table.proofs.parts.free_unused.Goals as goal

pub returns-in-Some-clause-counted : goal.returns-in-Some-clause-counted
returns-in-Some-clause-counted c =
    let own : name_at c.args.names.now.names c.args.slot ≡ Some c.in-Some.key = sym c.name_at.ensures ∙ c.in-Some.is in
    let less = named-less c.args.names.now.names c.args.slot c.in-Some.key (name-within c.args.names.now.names c.args.slot c.in-Some.key own) own in
    let freed = ap (λ n. length (named_in n.names)) c.free.ensures in
    let counted = c.requires.counted in
    let sub = c.saturating_sub.ensures in
    omega (arith, less, freed, counted, sub)
