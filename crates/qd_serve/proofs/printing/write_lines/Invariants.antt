use Rattle.std.proofs.Common.{take}
use Rattle.qd_outside.specs.Writing.{IsWritten}
use Rattle.qd_serve.specs.Printing.{told_text}
use Rattle.qd_serve.proofs.printing.write_lines.Given as goal

abbrev pub invariant-loop-link : goal.invariant-loop-link
invariant-loop-link g l = IsWritten (told_text (take l.link-index l.told)) (g.K.Sink.written l.fn.out) (g.K.Sink.written l.out) (g.K.Sink.faults l.fn.out) (g.K.Sink.faults l.out)
