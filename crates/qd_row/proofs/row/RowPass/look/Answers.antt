use Rattle.std.proofs.Common.{ap, ◌∙◌, ◌<◌, length, get_or, arith}
use Rattle.std.proofs.lemmas.Option.{slice_get_within}
use Rattle.qd_row.specs.Passes.{IsSound}
use Rattle.qd_row.proofs.Rowing.{next_too}
use Rattle.qd_row.proofs.row.RowPass.look.Goals as goal

pub loop-i-init : goal.loop-i-init
loop-i-init g c i p below at = absurd (omega arith)

pub loop-i-preserved : goal.loop-i-preserved
loop-i-preserved g c =
    next_too (IsSound g.M.Machine.legal) c.args.self.now c.loop-i.i c.index.result.now (c.index.ensures ∙ ap (λ l. get_or l c.loop-i.i c.index.result.now) c.self.view_is) (record { is_legal = c.look.ensures.legal; own = c.look.ensures.calls }) c.loop-i.invariant

pub returns : goal.returns
returns g c i p at =
    let below : i < c.loop-i.i =
    let a = ap length c.self.view_is in
    let b = c.len-i-end.ensures in
    let d = c.self.inside.passes.ok.0 in
    let t = c.loop-i-test.false in
    let w = slice_get_within c.args.self.now i p at in
    omega arith in
    c.loop-i.invariant i p below at
