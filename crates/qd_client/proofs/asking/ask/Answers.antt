use Rattle.std.proofs.Common.{ℕ, List, [], ◌++◌, true, false}
use Rattle.qd_grammar.specs.declared.item.Item.TheVariants.{Head, Heartbeat, Protocol}
use Rattle.qd_path.specs.Texts.{line_of}
use Rattle.qd_client.specs.Asking.{add_of, asked, wants_text}
use Rattle.qd_client.proofs.Prints.{drained, printed_less, printed_more}
use Rattle.qd_client.proofs.asking.ask.Goals as goal

pub returns-then-not-say : goal.returns-then-not-say
returns-then-not-say g c =
    let defs = c.args.scheme.now in
    printed_less (line_of defs Protocol) ((line_of defs (Head (add_of c.args.collector)) ++ wants_text defs c.args.collector c.args.wants.now) ++ line_of defs Heartbeat) [] c.say.new.out _ _ _ _ (rw c.new-out.ensures at c.if-not-say.ensures)

pub returns-then-not-say_wants : goal.returns-then-not-say_wants
returns-then-not-say_wants g c =
    let defs = c.args.scheme.now in
    let wants : List ℕ = line_of defs (Head (add_of c.args.collector)) ++ wants_text defs c.args.collector c.args.wants.now in
    let last : List ℕ = line_of defs Heartbeat in
    printed_more false (line_of defs Protocol) (wants ++ last) [] c.say.new.out c.say_wants.new.out (g.K.Sink.written c.args.sink.now) (g.K.Sink.written c.say.new.sink) (g.K.Sink.written c.say_wants.new.sink) (g.K.Sink.faults c.args.sink.now) (g.K.Sink.faults c.say.new.sink) (g.K.Sink.faults c.say_wants.new.sink)
    (rw c.new-out.ensures at c.if-not-say.ensures) (printed_less wants last c.say.new.out c.say_wants.new.out _ _ _ _ c.if-not-say_wants.ensures)

pub returns-then-not-say-2 : goal.returns-then-not-say-2
returns-then-not-say-2 g c =
    let defs = c.args.scheme.now in
    let wants : List ℕ = line_of defs (Head (add_of c.args.collector)) ++ wants_text defs c.args.collector c.args.wants.now in
    let last : List ℕ = line_of defs Heartbeat in
    let rest = printed_more false wants last c.say.new.out c.say_wants.new.out c.say-2.new.out (g.K.Sink.written c.say.new.sink) (g.K.Sink.written c.say_wants.new.sink) (g.K.Sink.written c.say-2.new.sink) (g.K.Sink.faults c.say.new.sink) (g.K.Sink.faults c.say_wants.new.sink) (g.K.Sink.faults c.say-2.new.sink)
    c.if-not-say_wants.ensures c.if-not-say-2.ensures in
    printed_more false (line_of defs Protocol) (wants ++ last) [] c.say.new.out c.say-2.new.out (g.K.Sink.written c.args.sink.now) (g.K.Sink.written c.say.new.sink) (g.K.Sink.written c.say-2.new.sink) (g.K.Sink.faults c.args.sink.now) (g.K.Sink.faults c.say.new.sink) (g.K.Sink.faults c.say-2.new.sink)
    (rw c.new-out.ensures at c.if-not-say.ensures) rest

pub returns : goal.returns
returns g c =
    let defs = c.args.scheme.now in
    let wants : List ℕ = line_of defs (Head (add_of c.args.collector)) ++ wants_text defs c.args.collector c.args.wants.now in
    let last : List ℕ = line_of defs Heartbeat in
    let rest = printed_more true wants last c.say.new.out c.say_wants.new.out c.say-2.new.out (g.K.Sink.written c.say.new.sink) (g.K.Sink.written c.say_wants.new.sink) (g.K.Sink.written c.say-2.new.sink) (g.K.Sink.faults c.say.new.sink) (g.K.Sink.faults c.say_wants.new.sink) (g.K.Sink.faults c.say-2.new.sink)
    c.if-not-say_wants.ensures c.if-not-say-2.ensures in
    let all = printed_more true (line_of defs Protocol) (wants ++ last) [] c.say.new.out c.say-2.new.out (g.K.Sink.written c.args.sink.now) (g.K.Sink.written c.say.new.sink) (g.K.Sink.written c.say-2.new.sink) (g.K.Sink.faults c.args.sink.now) (g.K.Sink.faults c.say.new.sink) (g.K.Sink.faults c.say-2.new.sink)
    (rw c.new-out.ensures at c.if-not-say.ensures) rest in
    drained c.drain.result (asked defs c.args.collector c.args.wants.now) c.say-2.new.out c.drain.new.self (g.K.Sink.written c.args.sink.now) (g.K.Sink.written c.say-2.new.sink) (g.K.Sink.written c.drain.new.sink) (g.K.Sink.flushed c.drain.new.sink) (g.K.Sink.faults c.args.sink.now) (g.K.Sink.faults c.say-2.new.sink) (g.K.Sink.faults c.drain.new.sink) all c.drain.ensures.drains
