use Rattle.std.proofs.Common.{ap, ◌∙◌, ◌<◌, sym, subst}
use Rattle.qd_stream.specs.declared.outbox.Waiting.{Waiting}
use Rattle.qd_stream.specs.Outboxes.{with_waiting}
use Rattle.qd_stream.specs.Boxes.{Boxes, with_box, box_at, IsBoxed}
use Rattle.qd_stream.proofs.BoxLaws.{stored, stored-some, made, cap-map, waiting-cap}
use Rattle.qd_stream.proofs.boxes.Boxes.push.Goals as goal

pub invariant_of-self : goal.invariant_of-self
invariant_of-self c =
    let w : Waiting = record { slot = c.args.slot; item = c.args.item.now } in
    subst (IsBoxed c.self.inside.cap) (sym c.push_in.ensures)
    (cap-map c.self.inside.cap c.self.inside.boxes.items c.args.agent (λ o. with_waiting o w) c.requires.agent (λ o. waiting-cap o w) c.self.invariant)

pub returns : goal.returns
returns c =
    let w : Waiting = record { slot = c.args.slot; item = c.args.item.now } in
    let there = made c.self.inside.cap c.self.inside.boxes.items c.args.agent c.args.slot (subst (λ (b : Boxes). c.args.slot < (box_at b c.args.agent).slots) (sym c.self.view_is) c.requires.slot) in
    ap (stored c.self.inside.cap) c.push_in.ensures
    ∙ stored-some c.self.inside.cap c.self.inside.boxes.items c.args.agent (λ o. with_waiting o w) (there.0, there.1)
    ∙ ap (λ b. with_box b c.args.agent (with_waiting (box_at b c.args.agent) w)) c.self.view_is

pub push_in-requires-clause-slot : goal.push_in-requires-clause-slot
push_in-requires-clause-slot c =
    let there = made c.self.inside.cap c.self.inside.boxes.items c.args.agent c.args.slot (subst (λ (b : Boxes). c.args.slot < (box_at b c.args.agent).slots) (sym c.self.view_is) c.requires.slot) in
    rw there.1 there.2
