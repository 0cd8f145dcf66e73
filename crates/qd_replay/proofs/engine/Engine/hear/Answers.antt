use Rattle.qd_replay.proofs.Halts.{heard, refused}
use Rattle.qd_replay.proofs.engine.Engine.hear.Goals as goal

pub returns-in-Some-clause-hears : goal.returns-in-Some-clause-hears
returns-in-Some-clause-hears g c = λ l are.
    let t = c.in-Some.ensures.calls l are in
    (t.0, t.1, rw (c.ended_by.ensures, c.in-Some.ensures.held) (refused _ c.in-Some.refusal c.args.item.now c.args.line c.args.self.now.script _ l t.0 _ t.2))

pub returns-clause-hears : goal.returns-clause-hears
returns-clause-hears g c = λ l are.
    let t = c.in_default.ensures.calls l are in
    let same = c.in_default.ensures.same.1 in
    let u = c.act.ensures.acts t.0 (rw same t.1) in
    let acts = rw same at u in
    (acts.0, acts.1, heard _ c.args.item.now c.args.line c.act.result c.args.self.now c.call.new.self c.act.new.self l t.0 acts.0 _ _ t.2 c.in_default.ensures.held (acts.2 c.args.self.now.script))
