use Rattle.std.proofs.Common.{◌≡◌}
use Rattle.qd_link.specs.LinkIns.{IsReading}
use Rattle.qd_path.specs.Lists.{Lists, AreOf}
use Rattle.qd_session.specs.Ins.{IsCutFor, Sourced}
use Rattle.qd_link.proofs.reading.read_on.Given as goal

abbrev pub invariant-loop : goal.invariant-loop
invariant-loop g l =
    let n = g.H.Hub.stripes l.initial.hub in
    record {
      counts : (goal.iterator-loop g).can_next l.iterator' × (goal.iterator-loop g).is_finite l.iterator';
      cut : IsCutFor n l.engine;
      same : (g.H.Hub.home l.hub ≡ g.H.Hub.home l.initial.hub) × (g.H.Hub.stripes l.hub ≡ n) × (l.engine.side ≡ l.initial.engine.side);
      kept : g.S.Source.kept l.source ≡ g.S.Source.kept l.initial.source;
      bell : (g.B.Bell.shuts l.bell ≡ g.B.Bell.shuts l.initial.bell) × (g.B.Bell.made l.bell ≡ g.B.Bell.made l.initial.bell);
      reads : (ls m : Lists) (s : Sourced) → IsReading l.scheme n l.initial.engine ls m s (record { left = g.S.Source.left l.initial.source; faults = g.S.Source.faults l.initial.source })
          → AreOf n (g.H.Hub.ticker l.initial.hub) (g.H.Hub.stream l.initial.hub) (g.H.Hub.history l.initial.hub) m
          → (o : Lists) × AreOf n (g.H.Hub.ticker l.hub) (g.H.Hub.stream l.hub) (g.H.Hub.history l.hub) o
          × IsReading l.scheme n l.engine ls o s (record { left = g.S.Source.left l.source; faults = g.S.Source.faults l.source });
    }
