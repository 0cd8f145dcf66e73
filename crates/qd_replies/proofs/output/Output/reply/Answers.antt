use Rattle.std.proofs.Common.{map, None, sym, ◌∙◌}
use Rattle.qd_grammar.specs.declared.item.Item.TheVariants.{Heartbeat}
use Rattle.qd_path.specs.Texts.{items_text, line_of}
use Rattle.qd_replies.proofs.Prints.{printed_more, printed_less, some_text, no_text}
use Rattle.qd_replies.proofs.output.Output.reply.Goals as goal

pub returns-then-is_empty : goal.returns-then-is_empty
returns-then-is_empty g c = no_text g.P.Printer.shown c.args.scheme.now c.args.items.now c.args.self.now _ _ (sym c.is_empty.ensures ∙ c.if-is_empty.true)

pub returns-then-not-items : goal.returns-then-not-items
returns-then-not-items g c =
    rw (some_text g.P.Printer.shown c.args.scheme.now c.args.items.now (sym c.is_empty.ensures ∙ c.if-is_empty.false))
    (printed_less (items_text c.args.scheme.now None (map g.P.Printer.shown c.args.items.now)) (line_of c.args.scheme.now Heartbeat) c.args.self.now c.items.new.self _ _ _ _ c.if-not-items.ensures)

pub returns : goal.returns
returns g c =
    rw (some_text g.P.Printer.shown c.args.scheme.now c.args.items.now (sym c.is_empty.ensures ∙ c.if-is_empty.false))
    (printed_more c.say.result (items_text c.args.scheme.now None (map g.P.Printer.shown c.args.items.now)) (line_of c.args.scheme.now Heartbeat) c.args.self.now c.items.new.self c.say.new.self
    (g.K.Sink.written c.args.sink.now) (g.K.Sink.written c.items.new.sink) (g.K.Sink.written c.say.new.sink) (g.K.Sink.faults c.args.sink.now) (g.K.Sink.faults c.items.new.sink) (g.K.Sink.faults c.say.new.sink)
    c.if-not-items.ensures c.say.ensures)
