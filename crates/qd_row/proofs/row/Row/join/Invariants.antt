use Rattle.qd_row.proofs.Joining.{Joining}
use Rattle.qd_row.proofs.row.Row.join.Given as goal

abbrev pub invariant-loop-pass : goal.invariant-loop-pass
invariant-loop-pass g l = Joining g.M.Machine.legal l.initial.passes-inside.passes.items l.initial.others.items l.passes-inside.passes.items l.others.items

abbrev pub decreases-loop-pass : goal.decreases-loop-pass
decreases-loop-pass g l = goal.left-loop-pass g l
