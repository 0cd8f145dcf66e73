use Rattle.std.proofs.Common.{◌≡◌}
use Rattle.qd_tests.proofs.hub.ask_often.Given as goal

abbrev pub invariant-loop : goal.invariant-loop
invariant-loop g l = g.H.Hub.home l.hub ≡ g.H.Hub.home l.fn.hub
