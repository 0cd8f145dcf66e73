use Rattle.std.proofs.Common.{arith, ap, subst}
use Rattle.std.specs.Prelude.{length}
use Rattle.qd_items.specs.Gives.{step_told}
use Rattle.qd_items.specs.Standing.{Kept}
use Rattle.qd_items.specs.Steps.{Steps}
use Rattle.qd_items.proofs.StepLaws.{text_short}
use Rattle.qd_items.proofs.items.Items.go.Goals as goal

pub judge-requires-clause-short : goal.judge-requires-clause-short
judge-requires-clause-short g c =
    let a = c.in-Line.ensures.answer in
    let s = text_short a.0 in
    let short = a.1.short in
    let text = ap length a.1.text in
    let here = ap length c.text.ensures in
    omega (arith, s, short, text, here)

pub returns-in-None-clause-steps : goal.returns-in-None-clause-steps
returns-in-None-clause-steps g c =
    let a = c.in-None.ensures.answer in
    let r = rw a.1 at (c.read.ensures.reads) in
    subst (λ (k : Kept). Steps c.args.scheme.now k (step_told c.read.result c.read.new.end c.read.new.self.item) c.read.new.self (g.S.Source.left c.args.source.now) (g.S.Source.left c.read.new.source) (g.S.Source.faults c.args.source.now) (g.S.Source.faults c.read.new.source))
    c.self.view_is (r c.args.scheme.now)
