use Rattle.std.proofs.Common.{◌≡◌, ◌∙◌, arith}
use Rattle.qd_link.proofs.WritingLaws.{last_told, linked_as, writes_end}
use Rattle.qd_link.proofs.writing.write_on.Goals as goal

pub returns-in-Some-clause-writes : goal.returns-in-Some-clause-writes
returns-in-Some-clause-writes g c = λ l m o r are.
    let n = g.H.Hub.stripes c.args.hub.now in
    let i = c.loop-turn.invariant in
    let within = c.loop-turn-test.true in
    let writes = rw i.same.1 at c.in-Some.ensures.writes in
    let t = i.writes l m o r are in
    let u = writes c.loop-turn.turn c.args.turns l t.0 o within (last_told c.loop-turn.turn c.args.turns within) t.2 t.1 in
    (u.0, u.1, linked_as c.args.scheme.now n c.loop-turn.engine.side c.args.engine.now.side c.in-Some.end c.args.turns l u.0 o _ i.same.2 u.2)

pub loop-turn-preserved : goal.loop-turn-preserved
loop-turn-preserved g c =
    let i = c.loop-turn.invariant in
    let within = c.loop-turn-test.true in
    let writes = rw i.same.1 at c.in_default.ensures.writes in
    record {
      round = rw (c.write_step.ensures.same.1 ∙ i.same.1) at c.write_step.ensures.round;
      same = (c.write_step.ensures.same.0 ∙ i.same.0, c.write_step.ensures.same.1 ∙ i.same.1, c.write_step.ensures.same.2 ∙ i.same.2);
      bell = (c.in_default.ensures.shuts ∙ i.bell.0, c.write_step.ensures.made ∙ i.bell.1);
      writes = λ l m o r are.
          let t = i.writes l m o r are in
          let u = writes c.loop-turn.turn c.args.turns l t.0 o within (last_told c.loop-turn.turn c.args.turns within) t.2 t.1 in
          (u.0, u.1, u.2);
    }

pub returns-clause-writes : goal.returns-clause-writes
returns-clause-writes g c = λ l m o r are.
    let n = g.H.Hub.stripes c.args.hub.now in
    let i = c.loop-turn.invariant in
    let over = c.loop-turn-test.false in
    let within = c.loop-turn.auto.turn-end in
    let all : c.loop-turn.turn ≡ c.args.turns = omega (arith, over, within) in
    let t = i.writes l m o r are in
    (t.0, t.1, linked_as c.args.scheme.now n c.loop-turn.engine.side c.args.engine.now.side _ c.args.turns l t.0 o _ i.same.2 (writes_end c.args.scheme.now n c.loop-turn.engine c.loop-turn.turn l t.0 o _ t.2 c.args.turns all))
