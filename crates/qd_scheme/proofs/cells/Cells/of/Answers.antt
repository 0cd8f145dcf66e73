use Rattle.std.proofs.Common.{pos}
use Rattle.qd_scheme.proofs.Padding.{IsPadded-made}
use Rattle.qd_scheme.proofs.cells.Cells.of.Goals as goal

pub invariant_of-result : goal.invariant_of-result
invariant_of-result c = IsPadded-made 16 (pos 0) c.args.values.now c.padded.result c.padded.ensures
