use Rattle.std.proofs.Common.{◌∙◌, ap, arith, ◌+◌, refl}
use Rattle.qd_slots.specs.Names.{name_at}
use Rattle.qd_slots.proofs.IndexLaws.{indexed-free, freed-counted}
use Rattle.qd_slots.proofs.names.Names.free.Goals as goal

pub overflow_add-self : goal.overflow_add-self
overflow_add-self c = let few = freed-counted c.self.inside.slots c.self.inside.names.items c.self.inside.free c.self.inside.free_count c.self.inside.room c.args.slot c.args.key.now c.self.invariant (ap (λ n. name_at n.names c.args.slot) c.self.view_is ∙ c.requires) in omega (arith, few)

pub invariant_of-self : goal.invariant_of-self
invariant_of-self c =
    indexed-free c.self.inside.slots c.drop_slot.new.slots c.self.inside.names.items c.set_name.new.names.items c.self.inside.free c.push_back.new.self c.self.inside.free_count (c.self.inside.free_count + 1) c.self.inside.room c.args.slot c.args.key.now
    c.self.invariant (ap (λ n. name_at n.names c.args.slot) c.self.view_is ∙ c.requires) c.push_back.ensures c.set_name.ensures.items c.drop_slot.ensures.looked c.drop_slot.ensures.spare refl
