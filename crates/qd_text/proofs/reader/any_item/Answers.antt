use Rattle.std.proofs.Common.{sym, ◌∙◌}
use Rattle.qd_text.proofs.Judged.{first_judged, control_judged, description_judged, body_is_judged}
use Rattle.qd_text.proofs.reader.any_item.Goals as goal

pub returns-then-not-state : goal.returns-then-not-state
returns-then-not-state c = c.first_line.ensures ∙ sym (first_judged c.args.mode c.args.state.now c.args.scheme.now c.args.line.now _ _ c.first_end.ensures.first c.if-not-state.true)

pub returns-then-is_control : goal.returns-then-is_control
returns-then-is_control c = c.control_line.ensures ∙ sym (control_judged c.args.mode c.args.state.now c.args.scheme.now c.args.line.now _ _ c.first_end-then-is_control.ensures.first c.if-not-state.false c.if-is_control.ensures)

pub returns-then-is_description : goal.returns-then-is_description
returns-then-is_description c = c.set_aside.ensures ∙ c.describe_line.ensures ∙ sym (description_judged c.args.mode c.args.state.now c.args.scheme.now c.args.line.now _ _ c.first_end-then-is_description.ensures.first c.if-not-state.false c.if-is_control.ensures c.if-is_description.ensures)

pub returns : goal.returns
returns c = c.body_line.ensures ∙ sym (body_is_judged c.args.mode c.args.state.now c.args.scheme.now c.args.line.now c.if-not-state.false c.if-is_control.ensures c.if-is_description.ensures)
