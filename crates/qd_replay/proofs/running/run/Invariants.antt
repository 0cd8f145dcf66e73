use Rattle.std.proofs.Common.{◌≡◌}
use Rattle.qd_items.specs.Work.{work}
use Rattle.qd_path.specs.Lists.{Lists, AreOf}
use Rattle.qd_replay.specs.Ends.{IsRunning}
use Rattle.qd_replay.proofs.running.run.Given as goal

abbrev pub invariant-items : goal.invariant-items
invariant-items g l =
    ((from : Lists) → AreOf (g.H.Hub.stripes l.fn.hub) (g.H.Hub.ticker l.fn.hub) (g.H.Hub.stream l.fn.hub) (g.H.Hub.history l.fn.hub) from
    → (m : Lists) × AreOf (g.H.Hub.stripes l.fn.hub) (g.H.Hub.ticker l.hub) (g.H.Hub.stream l.hub) (g.H.Hub.history l.hub) m
    × IsRunning (record { defs = l.scheme; stripes = g.H.Hub.stripes l.fn.hub })
    (record { left = g.S.Source.left l.fn.source; reads = g.S.Source.faults l.fn.source; written = g.K.Sink.written l.fn.sink; writes = g.K.Sink.faults l.fn.sink })
    from l.items l.engine m
    (record { left = g.S.Source.left l.source; reads = g.S.Source.faults l.source; written = g.K.Sink.written l.sink; writes = g.K.Sink.faults l.sink }))
    × (g.S.Source.kept l.source ≡ g.S.Source.kept l.fn.source)
    × ((g.H.Hub.home l.hub ≡ g.H.Hub.home l.fn.hub) × (g.H.Hub.stripes l.hub ≡ g.H.Hub.stripes l.fn.hub) × g.H.Hub.is_alone l.hub)

abbrev pub decreases-items : goal.decreases-items
decreases-items g l = work l.items
