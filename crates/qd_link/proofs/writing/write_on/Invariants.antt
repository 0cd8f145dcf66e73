use Rattle.std.proofs.Common.{◌≡◌}
use Rattle.qd_path.specs.Lists.{Lists, AreOf}
use Rattle.qd_replies.specs.Outs.{IsInRound, Sunk}
use Rattle.qd_link.specs.LinkOuts.{IsWriting}
use Rattle.qd_link.proofs.writing.write_on.Given as goal

abbrev pub invariant-loop-turn : goal.invariant-loop-turn
invariant-loop-turn g l =
    let n = g.H.Hub.stripes l.initial.hub in
    record {
      round : IsInRound n l.engine;
      same : (g.H.Hub.home l.hub ≡ g.H.Hub.home l.initial.hub) × (g.H.Hub.stripes l.hub ≡ n) × (l.engine.side ≡ l.initial.engine.side);
      bell : (g.B.Bell.shuts l.bell ≡ g.B.Bell.shuts l.initial.bell) × (g.B.Bell.made l.bell ≡ g.B.Bell.made l.initial.bell);
      writes : (ls m : Lists) (o : Sunk) → IsWriting l.scheme n l.initial.engine 0 ls m o (record { written = g.K.Sink.written l.initial.sink; faults = g.K.Sink.faults l.initial.sink })
          → AreOf n (g.H.Hub.ticker l.initial.hub) (g.H.Hub.stream l.initial.hub) (g.H.Hub.history l.initial.hub) m
          → (r : Lists) × AreOf n (g.H.Hub.ticker l.hub) (g.H.Hub.stream l.hub) (g.H.Hub.history l.hub) r
          × IsWriting l.scheme n l.engine l.turn ls r o (record { written = g.K.Sink.written l.sink; faults = g.K.Sink.faults l.sink });
    }
