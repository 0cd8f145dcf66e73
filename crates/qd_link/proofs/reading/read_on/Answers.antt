use Rattle.std.proofs.Common.{◌∙◌, refl}
use Rattle.qd_link.proofs.ReadingLaws.{read_as}
use Rattle.qd_link.proofs.reading.read_on.Goals as goal

pub returns-in-Some-read_step-clause-reads : goal.returns-in-Some-read_step-clause-reads
returns-in-Some-read_step-clause-reads g c = λ l m s r are.
    let i = c.loop.invariant in
    let reads = rw i.same.1 at c.in-Some-read_step.ensures.reads in
    let t = i.reads l m s r are in
    let u = reads l t.0 s t.2 t.1 in
    (u.0, u.1, read_as c.args.scheme.now (g.H.Hub.stripes c.args.hub.now) c.loop.engine.side c.args.engine.now.side c.in-Some-read_step.end l u.0 s _ i.same.2 u.2)

pub loop-preserved : goal.loop-preserved
loop-preserved g c =
    let i = c.loop.invariant in
    let reads = rw i.same.1 at c.in_default.ensures.reads in
    record {
      counts = (tt, tt);
      cut = rw (c.read_step.ensures.same.1 ∙ i.same.1) at (c.in_default.ensures.cut refl);
      same = (c.read_step.ensures.same.0 ∙ i.same.0, c.read_step.ensures.same.1 ∙ i.same.1, c.read_step.ensures.same.2 ∙ i.same.2);
      kept = c.read_step.ensures.kept ∙ i.kept;
      bell = (c.read_step.ensures.bell.0 ∙ i.bell.0, c.read_step.ensures.bell.1 ∙ i.bell.1);
      reads = λ l m s r are. let t = i.reads l m s r are in let u = reads l t.0 s t.2 t.1 in (u.0, u.1, u.2);
    }
