use Rattle.std.proofs.Common.{ap, ◌∙◌, refl, drop}
use Rattle.qd_stream.specs.Outboxes.{with_items}
use Rattle.qd_stream.specs.Boxes.{with_box, box_at}
use Rattle.qd_stream.proofs.BoxLaws.{stored, stored-map}
use Rattle.qd_stream.proofs.boxes.Boxes.pop_item.Goals as goal

pub returns-clause-left : goal.returns-clause-left
returns-clause-left c =
    ap (stored c.self.inside.cap) c.pop_item_in.ensures.left
    ∙ stored-map c.self.inside.cap c.self.inside.boxes.items c.args.agent (λ o. with_items o (drop 1 o.items)) refl
    ∙ ap (λ b. with_box b c.args.agent (with_items (box_at b c.args.agent) (drop 1 (box_at b c.args.agent).items))) c.self.view_is
