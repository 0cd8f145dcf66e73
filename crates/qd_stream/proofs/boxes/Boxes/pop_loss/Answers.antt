use Rattle.std.proofs.Common.{ap, ◌∙◌, refl}
use Rattle.qd_stream.specs.Outboxes.{without_first_loss}
use Rattle.qd_stream.specs.Boxes.{with_box, box_at}
use Rattle.qd_stream.proofs.BoxLaws.{stored, stored-map}
use Rattle.qd_stream.proofs.boxes.Boxes.pop_loss.Goals as goal

pub returns-clause-left : goal.returns-clause-left
returns-clause-left c =
    ap (stored c.self.inside.cap) c.pop_loss_in.ensures.left
    ∙ stored-map c.self.inside.cap c.self.inside.boxes.items c.args.agent (λ o. without_first_loss o) refl
    ∙ ap (λ b. with_box b c.args.agent (without_first_loss (box_at b c.args.agent))) c.self.view_is
