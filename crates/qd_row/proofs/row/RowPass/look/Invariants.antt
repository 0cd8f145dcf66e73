use Rattle.std.proofs.Common.{ℕ, ◌≡◌, ◌<◌, Some, slice_get}
use Rattle.qd_gate.specs.Passes.{Pass}
use Rattle.qd_row.specs.Passes.{IsSound}
use Rattle.qd_row.proofs.row.RowPass.look.Given as goal

abbrev pub invariant-loop-i : goal.invariant-loop-i
invariant-loop-i g l = (i : ℕ) (p : Pass g.row.M-Op.Denot g.row.M-Reply.Denot) → i < l.i → slice_get l.self i ≡ Some p → IsSound g.M.Machine.legal p
