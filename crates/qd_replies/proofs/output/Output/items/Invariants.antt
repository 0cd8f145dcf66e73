use Rattle.std.proofs.Common.{map, drop}
use Rattle.qd_replies.proofs.Prints.{IsPrinting}
use Rattle.qd_replies.proofs.output.Output.items.Given as goal

abbrev pub invariant-loop-x : goal.invariant-loop-x
invariant-loop-x g l = IsPrinting l.scheme (map g.P.Printer.shown l.items) (map g.P.Printer.shown (drop l.x-index l.items)) l.last l.initial.self l.self
    (g.K.Sink.written l.initial.sink) (g.K.Sink.written l.sink) (g.K.Sink.faults l.initial.sink) (g.K.Sink.faults l.sink)
