use Rattle.std.proofs.Common.{◌∙◌, arith}
use Rattle.qd_link.proofs.ClosingLaws.{closed_all, closed_next}
use Rattle.qd_link.proofs.closing.close_all.Goals as goal

pub loop-at-preserved : goal.loop-at-preserved
loop-at-preserved g c =
    let n = g.H.Hub.stripes c.args.hub.now in
    let i = c.loop-at.invariant in
    let closes = rw (i.same.1, c.stripes-n.ensures.stripes) at c.close_one.ensures.closes in
    record {
      same = (c.close_one.ensures.same.0 ∙ i.same.0, c.close_one.ensures.same.1 ∙ i.same.1);
      bell = (c.close_one.ensures.bell.0 ∙ i.bell.0, c.close_one.ensures.bell.1 ∙ i.bell.1);
      closed = λ l are. let t = i.closed l are in let u = closes t.0 t.1 in (u.0, u.1, closed_next n c.args.agent c.loop-at.at l t.0 u.0 t.2 u.2);
    }

pub returns-clause-closed : goal.returns-clause-closed
returns-clause-closed g c = λ l are.
    let n = g.H.Hub.stripes c.args.hub.now in
    let over = c.loop-at-test.false in
    let same = c.stripes-n.ensures.stripes in
    let t = c.loop-at.invariant.closed l are in
    (t.0, t.1, closed_all n c.args.agent c.loop-at.at l t.0 (omega (arith, over, same)) t.2)
