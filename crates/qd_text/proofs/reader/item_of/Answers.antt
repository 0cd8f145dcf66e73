use Rattle.std.proofs.Common.{sym, ◌∙◌}
use Rattle.qd_text.proofs.Judged.{body_is_judged, no_control}
use Rattle.qd_text.proofs.reader.item_of.Goals as goal

pub returns : goal.returns
returns c = c.body_line.ensures ∙ sym (body_is_judged c.args.mode c.args.state.now c.args.scheme.now c.args.line.now c.if-not-state.false (no_control c.args.line.now c.if-is_description.ensures) c.if-is_description.ensures)
