use Rattle.qd_check.specs.Runs.{Outside}
use Rattle.qd_client.specs.Dumps.{Ask}
use Rattle.qd_client.proofs.DumpLaws.{dumps_first, left, no_memory, not_asked, not_shown}
use Rattle.qd_client.proofs.dump.dump_over.Goals as goal

pub returns-in-Err-clause-dumps : goal.returns-in-Err-clause-dumps
returns-in-Err-clause-dumps g c = no_memory _ _ _

pub returns-then-not-ask-clause-dumps : goal.returns-then-not-ask-clause-dumps
returns-then-not-ask-clause-dumps g c = not_asked _ _ _ _ _ (rw c.deref.ensures.value at c.if-not-ask.ensures)

pub returns-then-not-ask-clause-first : goal.returns-then-not-ask-clause-first
returns-then-not-ask-clause-first g c = dumps_first _ _ _ _ _ (returns-then-not-ask-clause-dumps g c)

pub returns-in-None-clause-first : goal.returns-in-None-clause-first
returns-in-None-clause-first g c =
    let ask : Ask = record { collector = c.args.collector; wants = c.args.wants.now.items; count = c.args.count } in
    dumps_first _ ask _ _ _ (not_shown _ ask _ _ _ _ _ _ (rw c.new-dumping.ensures at c.in-None.ensures.writes) (rw c.deref.ensures.value at c.if-not-ask.ensures.0))

pub returns-clause-dumps : goal.returns-clause-dumps
returns-clause-dumps g c =
    let ask : Ask = record { collector = c.args.collector; wants = c.args.wants.now.items; count = c.args.count } in
    let o : Outside = record { left = g.S.Source.left c.args.source.now; reads = g.S.Source.faults c.args.source.now; written = g.O.Sink.written c.args.out.now; writes = g.O.Sink.faults c.args.out.now } in
    let t : Outside = record { left = g.S.Source.left c.write_through.new.source; reads = g.S.Source.faults c.write_through.new.source; written = g.O.Sink.written c.write_through.new.sink; writes = g.O.Sink.faults c.write_through.new.sink } in
    (left c.args.scheme.now ask o t c.in-Some.halt c.leave.result (g.K.Sink.written c.args.sink.now) (g.K.Sink.written c.ask.new.sink) (g.K.Sink.written c.leave.new.sink) (g.K.Sink.faults c.args.sink.now) (g.K.Sink.faults c.ask.new.sink) (g.K.Sink.faults c.leave.new.sink) (g.K.Sink.flushed c.ask.new.sink) (g.K.Sink.flushed c.leave.new.sink) (g.O.Sink.flushed c.write_through.new.sink) c.requires
    (rw c.new-dumping.ensures at c.in-Some.ensures.writes) (rw c.deref.ensures.value at c.if-not-ask.ensures.0) c.if-not-ask.ensures.1 c.leave.ensures).dumps

pub returns-clause-first : goal.returns-clause-first
returns-clause-first g c = dumps_first _ _ _ _ _ (returns-clause-dumps g c)

pub returns-clause-decided : goal.returns-clause-decided
returns-clause-decided g c =
    let ask : Ask = record { collector = c.args.collector; wants = c.args.wants.now.items; count = c.args.count } in
    let o : Outside = record { left = g.S.Source.left c.args.source.now; reads = g.S.Source.faults c.args.source.now; written = g.O.Sink.written c.args.out.now; writes = g.O.Sink.faults c.args.out.now } in
    let t : Outside = record { left = g.S.Source.left c.write_through.new.source; reads = g.S.Source.faults c.write_through.new.source; written = g.O.Sink.written c.write_through.new.sink; writes = g.O.Sink.faults c.write_through.new.sink } in
    (left c.args.scheme.now ask o t c.in-Some.halt c.leave.result (g.K.Sink.written c.args.sink.now) (g.K.Sink.written c.ask.new.sink) (g.K.Sink.written c.leave.new.sink) (g.K.Sink.faults c.args.sink.now) (g.K.Sink.faults c.ask.new.sink) (g.K.Sink.faults c.leave.new.sink) (g.K.Sink.flushed c.ask.new.sink) (g.K.Sink.flushed c.leave.new.sink) (g.O.Sink.flushed c.write_through.new.sink) c.requires
    (rw c.new-dumping.ensures at c.in-Some.ensures.writes) (rw c.deref.ensures.value at c.if-not-ask.ensures.0) c.if-not-ask.ensures.1 c.leave.ensures).decided
