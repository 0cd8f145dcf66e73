use Rattle.std.proofs.Common.{arith, sym, ap, ◌∙◌}
use Rattle.qd_slots.proofs.NameLaws.{slots_with-room, slots_with-more}
use Rattle.qd_slots.proofs.names.Names.slots_with.Goals as goal

pub returns-then-more-self-clause-slots : goal.returns-then-more-self-clause-slots
returns-then-more-self-clause-slots c = let r = ap (λ n. n.room) c.self.view_is in c.slots-slots.ensures.slots ∙ sym (slots_with-room c.args.self.now c.args.more (omega arith))

pub returns-clause-slots : goal.returns-clause-slots
returns-clause-slots c = let r = ap (λ n. n.room) c.self.view_is in let m = slots_with-more c.args.self.now c.args.more (omega arith) in let l = c.slots-slots.ensures.slots in omega arith
