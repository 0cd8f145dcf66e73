use Rattle.std.proofs.Common.{◌+◌, refl}
use Rattle.qd_link.proofs.WritingLaws.{writes_went, writes_idle, writes_busy, writes_cut, writes_spent, rests, goes_as}
use Rattle.qd_link.proofs.writing.write_step.Goals as goal

pub returns-in-Went-clause-writes : goal.returns-in-Went-clause-writes
returns-in-Went-clause-writes g c = λ count limit l m o h last r are.
    let t = c.in-Went.ensures.step r.begun r.past m r.is_open r.stands are in
    (t.0, t.1, writes_went c.args.scheme.now (g.H.Hub.stripes c.args.hub.now) c.args.engine.now c.step.new.self count l m t.0 o _ _ (g.K.Sink.flushed c.step.new.sink) r c.in-Went.field-0 t.2)

pub returns-then-is_last-clause-writes : goal.returns-then-is_last-clause-writes
returns-then-is_last-clause-writes g c = λ count limit l m o h last r are.
    let t = c.in-Idle.ensures.step r.begun r.past m r.is_open r.stands are in
    let q = writes_idle c.args.scheme.now (g.H.Hub.stripes c.args.hub.now) c.args.engine.now c.step.new.self count l m t.0 o _ _ (g.K.Sink.flushed c.step.new.sink) r c.exactly_idle.ensures t.2 in
    (t.0, t.1, q.0)

pub returns-else-is_last-clause-writes : goal.returns-else-is_last-clause-writes
returns-else-is_last-clause-writes g c = λ count limit l m o h last r are.
    let t = c.in-Idle.ensures.step r.begun r.past m r.is_open r.stands are in
    let q = writes_idle c.args.scheme.now (g.H.Hub.stripes c.args.hub.now) c.args.engine.now c.step.new.self count l m t.0 o _ _ (g.K.Sink.flushed c.step.new.sink) r c.exactly_idle.ensures t.2 in (
      t.0,
      t.1,
      goes_as c.args.scheme.now (g.H.Hub.stripes c.args.hub.now) c.step.new.self.side c.args.engine.now.side c.rest.result c.step.new.self count limit l t.0 o _ c.step.ensures.same.2
          (rests c.args.scheme.now (g.H.Hub.stripes c.args.hub.now) c.step.new.self (count + 1) l t.0 o _ q.0 _ count limit c.rest.result refl (last c.if-is_last.false) q.1 c.rest.ensures.rests),
    )

pub returns-in-Busy-clause-writes : goal.returns-in-Busy-clause-writes
returns-in-Busy-clause-writes g c = λ count limit l m o h last r are.
    let t = c.in-Busy.ensures.step r.begun r.past m r.is_open r.stands are in
    (t.0, t.1, writes_busy c.args.scheme.now (g.H.Hub.stripes c.args.hub.now) c.args.engine.now c.step.new.self count l m t.0 o _ _ (g.K.Sink.flushed c.step.new.sink) r c.in-Busy.first c.in-Busy.then t.2)

pub returns-in-Ended-WriteFault-clause-writes : goal.returns-in-Ended-WriteFault-clause-writes
returns-in-Ended-WriteFault-clause-writes g c = λ count limit l m o h last r are.
    let t = c.in-Ended-WriteFault.ensures.step r.begun r.past m r.is_open r.stands are in
    (t.0, t.1, writes_cut c.args.scheme.now (g.H.Hub.stripes c.args.hub.now) c.args.engine.now c.step.new.self count l m t.0 o _ _ (g.K.Sink.flushed c.step.new.sink) r limit h (rw c.in-Ended-WriteFault.field-0-is at t.2))

pub returns-in-Ended-Spent-clause-writes : goal.returns-in-Ended-Spent-clause-writes
returns-in-Ended-Spent-clause-writes g c = λ count limit l m o h last r are.
    let t = c.in-Ended-Spent.ensures.step r.begun r.past m r.is_open r.stands are in
    (t.0, t.1, writes_spent c.args.scheme.now (g.H.Hub.stripes c.args.hub.now) c.args.engine.now c.step.new.self count l m t.0 o _ _ (g.K.Sink.flushed c.step.new.sink) r limit h (rw c.in-Ended-Spent.field-0-is at t.2))
