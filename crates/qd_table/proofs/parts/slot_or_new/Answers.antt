use Rattle.std.proofs.Common.{ap, arith, length}
use Rattle.qd_table.proofs.parts.slot_or_new.Goals as goal
use Rattle.qd_slots.specs.Names.{named_in}
use Rattle.qd_slots.proofs.NameLaws.{named-more}

pub returns-in-None-clause-counted : goal.returns-in-None-clause-counted
returns-in-None-clause-counted c =
    let more = named-more c.args.names.now.names c.name.result c.args.key.now c.name.ensures.within c.name.ensures.vacant in
    let named = ap (λ n. length (named_in n.names)) c.name.ensures.names in
    let counted = c.requires.counted in
    omega (arith, more, named, counted)
