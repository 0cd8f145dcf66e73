use Rattle.std.proofs.Common.{◌≡◌, ℕ, sym, ◌∙◌, arith, subst}
use Rattle.qd_table.specs.Tables.{slots_in}
use Rattle.qd_stream.specs.Boxes.{Boxes, box_at, with_box, with_slots}
use Rattle.qd_stream.specs.Stripes.{Shown, IsReady}
use Rattle.qd_stream.proofs.WalkLaws.{keys_asked}
use Rattle.qd_stream.proofs.ReadyLaws.{ready-grown, ready-subscribed, wide-grown}
use Rattle.qd_stream.proofs.stripe.StreamStripe.add.Goals as goal

pub invariant_of-self-in-Ok-reserve : goal.invariant_of-self-in-Ok-reserve
invariant_of-self-in-Ok-reserve c =
    let s : Shown = record { table = c.self.inside.table; boxes = c.self.inside.boxes } in
    let grown : Shown = record { table = c.admit.new.self; boxes = with_box s.boxes c.args.agent (with_slots (box_at s.boxes c.args.agent) (slots_in c.admit.new.self)) } in
    let boxes : c.reserve.new.self ≡ grown.boxes = c.in-Ok-reserve.ensures.ok ∙ (λ i. let a : ℕ = c.get.ensures.value i in with_box s.boxes a (with_slots (box_at s.boxes a) (c.slots.ensures.slots i))) in
    subst (λ (b : Boxes). IsReady (record { table = c.subscribe_all.new.table; boxes = b })) (sym boxes)
    (ready-subscribed grown c.subscribe_all.new.table c.args.agent (keys_asked c.args.subs.now) (ready-grown s c.admit.new.self c.args.agent (omega arith) c.self.invariant c.admit.ensures.same)
    (wide-grown s c.admit.new.self c.args.agent (omega arith) c.self.invariant) c.subscribe_all.ensures)
