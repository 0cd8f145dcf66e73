use Rattle.qd_path.specs.Texts.{head_before, line_of}
use Rattle.qd_replies.proofs.Prints.{printed_more, printed_less}
use Rattle.qd_replies.proofs.output.Output.one.Goals as goal

pub returns-then-not-head : goal.returns-then-not-head
returns-then-not-head g c = printed_less (head_before c.args.scheme.now c.args.last c.args.message) (line_of c.args.scheme.now c.args.item.now) c.args.self.now c.head.new.self _ _ _ _ c.if-not-head.ensures

pub returns : goal.returns
returns g c = printed_more c.say.result (head_before c.args.scheme.now c.args.last c.args.message) (line_of c.args.scheme.now c.args.item.now) c.args.self.now c.head.new.self c.say.new.self
    (g.K.Sink.written c.args.sink.now) (g.K.Sink.written c.head.new.sink) (g.K.Sink.written c.say.new.sink) (g.K.Sink.faults c.args.sink.now) (g.K.Sink.faults c.head.new.sink) (g.K.Sink.faults c.say.new.sink)
    c.if-not-head.ensures c.say.ensures
