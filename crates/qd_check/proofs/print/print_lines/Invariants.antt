use Rattle.std.specs.Prelude.{◌≡◌, ◌++◌}
use Rattle.qd_grammar.specs.declared.item.Mode.TheVariants.{File}
use Rattle.qd_items.specs.Work.{work}
use Rattle.qd_check.proofs.FmtLaws.{IsPrinting}
use Rattle.qd_check.proofs.print.print_lines.Given as goal

abbrev pub invariant-items : goal.invariant-items
invariant-items g l = (l.items.mode ≡ File) × (g.S.Source.kept l.source ≡ g.S.Source.kept l.fn.source)
    × IsPrinting l.scheme (record { left = g.S.Source.left l.fn.source; reads = g.S.Source.faults l.fn.source; written = g.K.Sink.written l.fn.sink; writes = g.K.Sink.faults l.fn.sink }) l.items (l.out ++ l.lines)
    (record { left = g.S.Source.left l.source; reads = g.S.Source.faults l.source; written = g.K.Sink.written l.sink; writes = g.K.Sink.faults l.sink })

abbrev pub decreases-items : goal.decreases-items
decreases-items g l = work l.items
