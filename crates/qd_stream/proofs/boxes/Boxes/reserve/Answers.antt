use Rattle.std.proofs.Common.{ap, ◌∙◌, sym}
use Rattle.std.specs.Prelude.{Some}
use Rattle.std.proofs.lemmas.Result.{on_ok_weaker}
use Rattle.qd_stream.specs.Boxes.{with_box, box_at, with_slots, box_of, place_at}
use Rattle.qd_stream.proofs.BoxLaws.{stored, stored-set, box-stored}
use Rattle.qd_stream.proofs.boxes.Boxes.reserve.Goals as goal

pub returns-clause-ok : goal.returns-clause-ok
returns-clause-ok c =
    on_ok_weaker c.reserve_in.result
    (λ ok. ap (stored c.self.inside.cap) ok
    ∙ stored-set c.self.inside.cap c.self.inside.boxes.items c.args.agent (Some (with_slots (box_of c.self.inside.cap (place_at c.self.inside.boxes.items c.args.agent)) c.args.slots))
    ∙ ap (λ o. with_box (stored c.self.inside.cap c.self.inside.boxes.items) c.args.agent (with_slots o c.args.slots)) (sym (box-stored c.self.inside.cap c.self.inside.boxes.items c.args.agent))
    ∙ ap (λ b. with_box b c.args.agent (with_slots (box_at b c.args.agent) c.args.slots)) c.self.view_is)
    c.reserve_in.ensures.ok
