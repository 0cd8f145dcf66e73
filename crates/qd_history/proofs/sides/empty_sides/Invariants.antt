use Rattle.std.proofs.Common.{◌≡◌, replicate}
use Rattle.qd_hist_stand.specs.Stripes.{no_side}
use Rattle.qd_history.proofs.sides.empty_sides.Given as goal

abbrev pub invariant-loop-agent : goal.invariant-loop-agent
invariant-loop-agent l = l.sides.items ≡ replicate l._agent no_side
