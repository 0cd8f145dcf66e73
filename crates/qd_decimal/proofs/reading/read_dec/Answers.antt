use Rattle.std.proofs.Common.{sym, subst, ℤ}
use Rattle.std.specs.Prelude.{Result}
use Rattle.qd_decimal.specs.Exact.{ReadsDecimal}
use Rattle.qd_decimal.specs.declared.fault.DecFault.{DecFault}
use Rattle.qd_decimal.proofs.Exactly.{reads}
use Rattle.qd_decimal.proofs.reading.read_dec.Goals as goal

pub returns-clause-exact : goal.returns-clause-exact
returns-clause-exact c = subst (λ (r : Result ℤ DecFault). ReadsDecimal c.args.scale c.args.text.now r) (sym c.decimal.ensures) (reads c.args.scale c.args.text.now)
