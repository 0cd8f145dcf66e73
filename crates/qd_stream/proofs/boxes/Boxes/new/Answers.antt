use Rattle.std.proofs.Common.{ap, ◌∙◌, subst, sym, arith}
use Rattle.qd_stream.specs.Boxes.{IsBoxed}
use Rattle.qd_stream.proofs.BoxLaws.{stored, stored-empty, boxed-empty}
use Rattle.qd_stream.proofs.boxes.Boxes.new.Goals as goal

pub invariant_of-result : goal.invariant_of-result
invariant_of-result c = subst (IsBoxed c.args.cap) (sym c.in_ok-no_boxes.ensures) (boxed-empty c.args.cap (omega arith))

pub returns : goal.returns
returns c = ap (stored c.args.cap) c.in_ok-no_boxes.ensures ∙ stored-empty c.args.cap
