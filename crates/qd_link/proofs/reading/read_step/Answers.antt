use Rattle.qd_link.proofs.ReadingLaws.{reads_on}
use Rattle.qd_link.proofs.reading.read_step.Goals as goal

pub returns-clause-reads : goal.returns-clause-reads
returns-clause-reads g c = λ l m s r are.
    let t = c.step-turn.ensures.step s.left r.past r.made m r.stands are in (
      t.0,
      t.1,
      rw c.end_after.ensures (reads_on c.args.scheme.now (g.H.Hub.stripes c.args.hub.now) c.args.engine.now c.step-turn.new.self c.step-turn.result l m t.0 s _ _ r t.2),
    )
