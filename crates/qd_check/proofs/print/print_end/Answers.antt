use Rattle.std.proofs.Common.{◌++◌, refl}
use Rattle.qd_check.specs.Printing.{end_line}
use Rattle.qd_check.proofs.Gathering.{at_last, cut_at_last}
use Rattle.qd_check.proofs.print.print_end.Goals as goal

pub returns-then-not-print : goal.returns-then-not-print
returns-then-not-print g c =
    cut_at_last c.args.end (end_line c.args.scheme.now c.args.end) (c.args.out.now ++ c.args.lines.now) c.print_last.new.out c.print_last.new.lines c.print.new.self (g.K.Sink.written c.args.sink.now) (g.K.Sink.written c.print_last.new.sink) (g.K.Sink.written c.print.new.sink) (g.K.Sink.faults c.args.sink.now) (g.K.Sink.faults c.print_last.new.sink) (g.K.Sink.faults c.print.new.sink)
    c.if-not-print_last.ensures (rw c.bytes.ensures at c.if-not-print.ensures.prints)

pub returns : goal.returns
returns g c =
    at_last c.args.end c.args.end (end_line c.args.scheme.now c.args.end) (c.args.out.now ++ c.args.lines.now) c.print_last.new.out c.print_last.new.lines c.print.new.self (g.K.Sink.written c.args.sink.now) (g.K.Sink.written c.print_last.new.sink) (g.K.Sink.written c.print.new.sink) (g.K.Sink.faults c.args.sink.now) (g.K.Sink.faults c.print_last.new.sink) (g.K.Sink.faults c.print.new.sink)
    refl c.if-not-print_last.ensures (rw c.bytes.ensures at c.if-not-print.ensures.prints)
