use Rattle.std.proofs.Common.{sym, ◌∙◌, arith}
use Rattle.qd_replies.proofs.Prints.{none_given}
use Rattle.qd_replies.proofs.out_engine.write_given.Goals as goal

pub returns-then-is_empty-clause-written : goal.returns-then-is_empty-clause-written
returns-then-is_empty-clause-written g c =
    let n = none_given g.P.Printer.shown c.args.scheme.now c.args.given.now (g.K.Sink.written c.args.sink.now) (g.K.Sink.faults c.args.sink.now) (sym c.is_empty.ensures ∙ c.if-is_empty.true) in
    (n.0, n.1, λ h. absurd (omega (arith, h)))
