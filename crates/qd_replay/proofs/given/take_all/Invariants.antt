use Rattle.std.proofs.Common.{◌≡◌, ◌≤◌, length, map}
use Rattle.qd_path.specs.Lists.{Lists, AreOf}
use Rattle.qd_replay.specs.Taking.{GiveUpTo}
use Rattle.qd_replay.proofs.given.take_all.Given as goal

abbrev pub invariant-loop-stripe : goal.invariant-loop-stripe
invariant-loop-stripe g l =
    ((g.H.Hub.home l.hub ≡ g.H.Hub.home l.fn.hub) × (g.H.Hub.stripes l.hub ≡ g.H.Hub.stripes l.fn.hub))
    × g.H.Hub.is_alone l.hub
    × (length l.room ≤ l.max)
    × ((from : Lists) → AreOf (g.H.Hub.stripes l.fn.hub) (g.H.Hub.ticker l.fn.hub) (g.H.Hub.stream l.fn.hub) (g.H.Hub.history l.fn.hub) from
    → (m : Lists) × AreOf (g.H.Hub.stripes l.fn.hub) (g.H.Hub.ticker l.hub) (g.H.Hub.stream l.hub) (g.H.Hub.history l.hub) m
    × GiveUpTo (g.H.Hub.stripes l.fn.hub) g.G.Giver.giver l.agent l.max l.stripe (map g.G.Printer.shown l.room) from m)
