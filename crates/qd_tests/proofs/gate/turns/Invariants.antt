use Rattle.std.proofs.Common.{◌≡◌}
use Rattle.qd_tests.proofs.gate.turns.Given as goal

abbrev pub invariant-loop : goal.invariant-loop
invariant-loop l = l.pass.home ≡ l.initial.pass.home
