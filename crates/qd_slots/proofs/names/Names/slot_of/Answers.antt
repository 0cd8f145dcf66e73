use Rattle.std.proofs.Common.{◌∙◌, ap}
use Rattle.qd_slots.specs.Names.{slot_in}
use Rattle.qd_slots.proofs.NameLaws.{slot_of-named}
use Rattle.qd_slots.proofs.names.Names.slot_of.Goals as goal

pub returns-clause-named : goal.returns-clause-named
returns-clause-named c =
    slot_of-named c.args.self.now.names c.args.key.now c.copied.result
    (c.copied.ensures ∙ c.get.ensures.value ∙ c.self.invariant.looked c.args.key.now ∙ ap (λ n. slot_in n.names c.args.key.now) c.self.view_is)
