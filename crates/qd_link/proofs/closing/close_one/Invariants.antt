use Rattle.std.proofs.Common.{◌≡◌, []}
use Rattle.qd_path.specs.Lists.{Lists, AreOf, GrewBy}
use Rattle.qd_link.proofs.closing.close_one.Given as goal

abbrev pub invariant-loop : goal.invariant-loop
invariant-loop g l =
    let n = g.H.Hub.stripes l.initial.hub in
    record {
      counts : (goal.iterator-loop g).can_next l.iterator' × (goal.iterator-loop g).is_finite l.iterator';
      same : (g.H.Hub.home l.hub ≡ g.H.Hub.home l.initial.hub) × (g.H.Hub.stripes l.hub ≡ n);
      bell : (g.B.Bell.shuts l.bell ≡ g.B.Bell.shuts l.initial.bell) × (g.B.Bell.made l.bell ≡ g.B.Bell.made l.initial.bell);
      none : (ls : Lists) → AreOf n (g.H.Hub.ticker l.initial.hub) (g.H.Hub.stream l.initial.hub) (g.H.Hub.history l.initial.hub) ls
          → (m : Lists) × AreOf n (g.H.Hub.ticker l.hub) (g.H.Hub.stream l.hub) (g.H.Hub.history l.hub) m × GrewBy n [] ls m;
    }
