use Rattle.qd_scheme.proofs.Padding.{IsPadded-made, take-padded}
use Rattle.qd_scheme.proofs.sym.Sym.of.Goals as goal

pub invariant_of-result : goal.invariant_of-result
invariant_of-result c = (
  IsPadded-made 64 0 c.args.text.now c.padded.result c.padded.ensures,
  rw (take-padded 64 0 c.args.text.now c.padded.result c.padded.ensures) c.in_default.ensures.place,
)
