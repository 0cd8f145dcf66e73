use Rattle.std.proofs.Common.{ℕ, arith, ◌<◌, ◌^◌, sym, subst, ◌≤◌}
use Rattle.std.specs.Prelude.{Result}
use Rattle.qd_decimal.specs.Exact.{ReadsCount}
use Rattle.qd_decimal.specs.declared.fault.DecFault.{DecFault}
use Rattle.qd_decimal.proofs.Wholes.{reads_count, count_within}
use Rattle.qd_decimal.proofs.reading.read_count.Goals as goal

pub returns-clause-exact : goal.returns-clause-exact
returns-clause-exact c = subst (λ (r : Result ℕ DecFault). ReadsCount c.args.most c.args.text.now r) (sym c.count.ensures) (reads_count c.args.most c.args.text.now (omega arith))

pub returns-clause-within : goal.returns-clause-within
returns-clause-within c = count_within c.args.most c.args.text.now c.count.result (subst (λ (r : Result ℕ DecFault). ReadsCount c.args.most c.args.text.now r) (sym c.count.ensures) (reads_count c.args.most c.args.text.now (omega arith)))
