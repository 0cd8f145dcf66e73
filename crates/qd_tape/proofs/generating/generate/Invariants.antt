use Rattle.qd_tape.specs.Scripts.{blocks_left, generated}
use Rattle.qd_tape.proofs.Printing.{IsPrinting}
use Rattle.qd_tape.proofs.generating.generate.Given as goal

abbrev pub invariant-loop-script : goal.invariant-loop-script
invariant-loop-script g l = IsPrinting (generated l.start l.count) l.script l.out (g.K.Sink.written l.fn.sink) (g.K.Sink.written l.sink) (g.K.Sink.faults l.fn.sink) (g.K.Sink.faults l.sink)

abbrev pub decreases-loop-script : goal.decreases-loop-script
decreases-loop-script g l = blocks_left l.script
