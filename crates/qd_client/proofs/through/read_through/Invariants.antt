use Rattle.std.specs.Prelude.{◌≡◌}
use Rattle.qd_items.specs.Work.{work}
use Rattle.qd_client.proofs.ThroughLaws.{IsReading, told_so}
use Rattle.qd_client.proofs.through.read_through.Given as goal

abbrev pub invariant-items : goal.invariant-items
invariant-items g l = record {
  mode : l.items.mode ≡ (g.H.Hearer.rule l.fn.hearer).mode;
  kept : g.S.Source.kept l.source ≡ g.S.Source.kept l.fn.source;
  rule : g.H.Hearer.rule l.hearer ≡ g.H.Hearer.rule l.fn.hearer;
  hears : g.H.Hearer.is_open l.hearer;
  reading : IsReading (g.H.Hearer.rule l.fn.hearer) l.scheme (g.H.Hearer.heard l.hearer) (told_so (g.S.Source.left l.fn.source) (g.S.Source.faults l.fn.source) (g.K.Sink.written l.fn.sink) (g.K.Sink.faults l.fn.sink)) l.items l.out
      (told_so (g.S.Source.left l.source) (g.S.Source.faults l.source) (g.K.Sink.written l.sink) (g.K.Sink.faults l.sink));
}

abbrev pub decreases-items : goal.decreases-items
decreases-items g l = work l.items
