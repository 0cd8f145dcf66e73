use Rattle.std.proofs.Common.{map, None, ◌++◌}
use Rattle.qd_grammar.specs.declared.item.Item.TheVariants.{Heartbeat}
use Rattle.qd_path.specs.Texts.{items_text, line_of}
use Rattle.qd_replies.proofs.Prints.{printed_more, printed_less, printed_less_after}
use Rattle.qd_replay.specs.Replies.{mark, reply_text}
use Rattle.qd_replay.proofs.printing.Printing.reply.Goals as goal

pub returns-then-not-mark : goal.returns-then-not-mark
unfolding reply_text
returns-then-not-mark g c = printed_less (mark c.args.link c.args.collector) _ c.args.self.now c.mark.new.self _ _ _ _ c.if-not-mark.ensures

pub returns-then-not-items : goal.returns-then-not-items
unfolding reply_text
returns-then-not-items g c =
    let m = rw (← c.self.view_is) at c.if-not-mark.ensures in
    printed_less_after (mark c.args.link c.args.collector) (items_text c.args.scheme.now None (map g.G.Printer.shown c.args.items.now)) (line_of c.args.scheme.now Heartbeat) c.args.self.now c.self.inside.output c.items.new.self
    (g.K.Sink.written c.args.sink.now) (g.K.Sink.written c.mark.new.sink) (g.K.Sink.written c.items.new.sink) (g.K.Sink.faults c.args.sink.now) (g.K.Sink.faults c.mark.new.sink) (g.K.Sink.faults c.items.new.sink)
    m c.if-not-items.ensures

pub returns : goal.returns
unfolding reply_text
returns g c =
    let m = rw (← c.self.view_is) at c.if-not-mark.ensures in
    printed_more c.say.result (mark c.args.link c.args.collector) (items_text c.args.scheme.now None (map g.G.Printer.shown c.args.items.now) ++ line_of c.args.scheme.now Heartbeat) c.args.self.now c.self.inside.output c.say.new.self
    (g.K.Sink.written c.args.sink.now) (g.K.Sink.written c.mark.new.sink) (g.K.Sink.written c.say.new.sink) (g.K.Sink.faults c.args.sink.now) (g.K.Sink.faults c.mark.new.sink) (g.K.Sink.faults c.say.new.sink)
    m
    (printed_more c.say.result (items_text c.args.scheme.now None (map g.G.Printer.shown c.args.items.now)) (line_of c.args.scheme.now Heartbeat) c.self.inside.output c.items.new.self c.say.new.self
    (g.K.Sink.written c.mark.new.sink) (g.K.Sink.written c.items.new.sink) (g.K.Sink.written c.say.new.sink) (g.K.Sink.faults c.mark.new.sink) (g.K.Sink.faults c.items.new.sink) (g.K.Sink.faults c.say.new.sink)
    c.if-not-items.ensures c.say.ensures)
