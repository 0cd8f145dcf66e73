use Rattle.std.proofs.Common.{◌≡◌, ◌<◌, ◌∙◌, ap, sym, arith, None, length, subst, List, Option}
use Rattle.qd_scheme.specs.declared.key.Key.{Key}
use Rattle.qd_slots.specs.Names.{name_at, slot_in}
use Rattle.qd_slots.proofs.IndexLaws.{indexed-name, free-within, free-vacant}
use Rattle.qd_slots.proofs.names.Names.name.Goals as goal

pub set_name-requires : goal.set_name-requires
set_name-requires c =
    let w = free-within c.self.inside.slots c.self.inside.names.items c.self.inside.free c.self.inside.free_count c.self.inside.room c.in-Some.slot c.self.invariant (sym c.in-Some.is ∙ c.pop_front.ensures.first) in
    omega arith

pub invariant_of-self : goal.invariant_of-self
invariant_of-self c =
    let names = ap (λ n. n.names) c.self.view_is in
    let room = ap (λ n. n.room) c.self.view_is in
    indexed-name c.self.inside.slots c.set_slot.new.slots c.self.inside.names.items c.set_name.new.names.items c.self.inside.free c.pop_front.new.self c.self.inside.free_count c.self.inside.room c.in-Some.slot c.args.key.now c.self.invariant
    (ap (λ ns. slot_in ns c.args.key.now) names ∙ c.requires.absent) (let r = c.requires.room in omega arith) (sym c.in-Some.is ∙ c.pop_front.ensures.first) c.pop_front.ensures.after c.set_name.ensures.items c.set_slot.ensures.looked c.set_slot.ensures.spare

pub returns-clause-within : goal.returns-clause-within
returns-clause-within c =
    subst (λ (ns : List (Option Key)). c.in-Some.slot < length ns) (ap (λ n. n.names) c.self.view_is)
    (free-within c.self.inside.slots c.self.inside.names.items c.self.inside.free c.self.inside.free_count c.self.inside.room c.in-Some.slot c.self.invariant (sym c.in-Some.is ∙ c.pop_front.ensures.first))

pub returns-clause-vacant : goal.returns-clause-vacant
returns-clause-vacant c =
    subst (λ (ns : List (Option Key)). name_at ns c.in-Some.slot ≡ None) (ap (λ n. n.names) c.self.view_is)
    (free-vacant c.self.inside.slots c.self.inside.names.items c.self.inside.free c.self.inside.free_count c.self.inside.room c.in-Some.slot c.self.invariant (sym c.in-Some.is ∙ c.pop_front.ensures.first))
