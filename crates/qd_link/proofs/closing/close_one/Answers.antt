use Rattle.std.proofs.Common.{◌∙◌, []}
use Rattle.qd_calls.proofs.Adding.{grew_more}
use Rattle.qd_link.proofs.ClosingLaws.{close_done}
use Rattle.qd_link.proofs.closing.close_one.Goals as goal

pub returns-then-close_step-clause-closes : goal.returns-then-close_step-clause-closes
returns-then-close_step-clause-closes g c = λ l are.
    let n = g.H.Hub.stripes c.args.hub.now in
    let i = c.loop.invariant in
    let tries = rw i.same.1 at c.if-close_step.ensures.tries in
    let t = i.none l are in
    let u = tries t.0 t.1 in
    (u.0, u.1, close_done n c.args.n c.args.agent c.args.at c.closing_call.result l t.0 u.0 c.requires.stripes c.closing_call.ensures.call c.closing_call.ensures.due t.2 u.2)

pub loop-preserved : goal.loop-preserved
loop-preserved g c =
    let n = g.H.Hub.stripes c.args.hub.now in
    let i = c.loop.invariant in
    let tries = rw i.same.1 at c.if-close_step.ensures.tries in
    record {
      counts = (tt, tt);
      same = (c.close_step.ensures.same.0 ∙ i.same.0, c.close_step.ensures.same.1 ∙ i.same.1);
      bell = (c.close_step.ensures.bell.0 ∙ i.bell.0, c.close_step.ensures.bell.1 ∙ i.bell.1);
      none = λ l are. let t = i.none l are in let u = tries t.0 t.1 in (u.0, u.1, grew_more n [] [] l t.0 u.0 t.2 u.2);
    }
