use Rattle.std.proofs.Common.{sym, subst, ℤ}
use Rattle.std.specs.Prelude.{Result}
use Rattle.qd_decimal.specs.Exact.{ReadsWhole}
use Rattle.qd_decimal.specs.declared.fault.DecFault.{DecFault}
use Rattle.qd_decimal.proofs.Wholes.{reads_whole}
use Rattle.qd_decimal.proofs.reading.read_int.Goals as goal

pub returns-clause-exact : goal.returns-clause-exact
returns-clause-exact c = subst (λ (r : Result ℤ DecFault). ReadsWhole c.args.text.now r) (sym c.int.ensures) (reads_whole c.args.text.now)
