use Rattle.qd_buffer.specs.Splitting.{IsFilling}
use Rattle.qd_buffer.proofs.split.fill.Given as goal

abbrev pub invariant-loop-item : goal.invariant-loop-item
invariant-loop-item g l = IsFilling g.T.Keyed.key_of l.n l.items l.item-index l.parts
