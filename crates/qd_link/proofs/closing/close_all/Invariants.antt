use Rattle.std.proofs.Common.{◌≡◌}
use Rattle.qd_path.specs.Lists.{Lists, AreOf}
use Rattle.qd_link.specs.Closing.{AreClosedTo}
use Rattle.qd_link.proofs.closing.close_all.Given as goal

abbrev pub invariant-loop-at : goal.invariant-loop-at
invariant-loop-at g l =
    let n = g.H.Hub.stripes l.initial.hub in
    record {
      same : (g.H.Hub.home l.hub ≡ g.H.Hub.home l.initial.hub) × (g.H.Hub.stripes l.hub ≡ n);
      bell : (g.B.Bell.shuts l.bell ≡ g.B.Bell.shuts l.initial.bell) × (g.B.Bell.made l.bell ≡ g.B.Bell.made l.initial.bell);
      closed : (ls : Lists) → AreOf n (g.H.Hub.ticker l.initial.hub) (g.H.Hub.stream l.initial.hub) (g.H.Hub.history l.initial.hub) ls
          → (m : Lists) × AreOf n (g.H.Hub.ticker l.hub) (g.H.Hub.stream l.hub) (g.H.Hub.history l.hub) m × AreClosedTo n l.agent l.at ls m;
    }
