use Rattle.std.proofs.Common.{◌≡◌, length}
use Rattle.std.specs.Prelude.{All}
use Rattle.qd_calls.specs.Dues.{IsDue}
use Rattle.qd_path.specs.Lists.{Lists, AreOf}
use Rattle.qd_replay.specs.Steps.{MadeSome}
use Rattle.qd_replay.proofs.due.make_all.Given as goal

abbrev pub invariant-calls : goal.invariant-calls
invariant-calls g l =
    ((g.H.Hub.home l.hub ≡ g.H.Hub.home l.fn.hub) × (g.H.Hub.stripes l.hub ≡ g.H.Hub.stripes l.fn.hub))
    × g.H.Hub.is_alone l.hub
    × All (IsDue (g.H.Hub.stripes l.fn.hub)) l.due.items
    × ((from : Lists) → AreOf (g.H.Hub.stripes l.fn.hub) (g.H.Hub.ticker l.fn.hub) (g.H.Hub.stream l.fn.hub) (g.H.Hub.history l.fn.hub) from
    → (m : Lists) × AreOf (g.H.Hub.stripes l.fn.hub) (g.H.Hub.ticker l.hub) (g.H.Hub.stream l.hub) (g.H.Hub.history l.hub) m
    × MadeSome (g.H.Hub.stripes l.fn.hub) l.fn.due.items l.due.items from m)

abbrev pub decreases-calls : goal.decreases-calls
decreases-calls g l = length l.due.items
