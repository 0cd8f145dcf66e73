use Rattle.std.proofs.Common.{◌∙◌, [], true, refl, ap}
use Rattle.qd_tape.specs.Scripts.{text_left}
use Rattle.qd_tape.proofs.Blocks.{text_left-generated}
use Rattle.qd_tape.proofs.Printing.{printing_none, printing_more, printing_short, printing_done, printing_cut}
use Rattle.qd_tape.proofs.generating.generate.Goals as goal

pub loop-script-init : goal.loop-script-init
loop-script-init g c = printing_none _ _ _ _ _ (ap text_left c.new-script.ensures ∙ text_left-generated c.args.start c.args.count) c.new-out.ensures

pub returns-then-not-print : goal.returns-then-not-print
returns-then-not-print g c = printing_short _ c.loop-script.script c.next_block.new.self _ _ [] _ _ _ _ _ _ c.loop-script.invariant c.loop-script-test.ensures.lines (rw c.bytes.ensures at c.if-not-print.ensures.prints)

pub loop-script-preserved : goal.loop-script-preserved
loop-script-preserved g c = printing_more _ c.loop-script.script c.next_block.new.self _ _ _ _ _ _ _ _ _ c.loop-script.invariant c.loop-script-test.ensures.lines (rw c.bytes.ensures at c.if-not-print.ensures.prints)

pub returns-then-not-drain : goal.returns-then-not-drain
returns-then-not-drain g c = printing_cut _ c.loop-script.script _ [] _ _ _ true _ _ _ c.loop-script.invariant (c.loop-script-test.ensures.over refl) c.if-not-drain.ensures.drains

pub returns : goal.returns
returns g c = printing_done _ c.loop-script.script _ _ _ _ _ _ _ _ _ c.loop-script.invariant (c.loop-script-test.ensures.over refl) c.if-not-drain.ensures.drains
