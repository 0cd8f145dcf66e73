use Rattle.std.proofs.Common.{take, pos, to_z, of_z, w64, arith, ap, length, List, ℤ}
use Rattle.qd_scheme.proofs.Padding.{IsPadded-push}
use Rattle.qd_scheme.proofs.cells.Cells.push.Goals as goal

pub invariant_of-self : goal.invariant_of-self
invariant_of-self c =
    let s = c.self.inside in
    rw c.from.ensures (IsPadded-push 16 s.len (pos 0) (to_z w64 (of_z w64 c.args.value)) s.values (take s.len s.values) (omega (arith, c.self.invariant.full, ap (λ (xs : List ℤ). length xs) c.self.view_is)) c.self.invariant.full c.self.invariant.fillers)
