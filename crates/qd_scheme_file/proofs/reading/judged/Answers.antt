use Rattle.qd_scheme.specs.Faults.{scheme_fault}
use Rattle.qd_scheme_file.proofs.EndLaws.{judged_right, judged_wrong, judged_forgone}
use Rattle.qd_scheme_file.proofs.reading.judged.Goals as goal

pub returns-in-Ok-clause-answer : goal.returns-in-Ok-clause-answer
returns-in-Ok-clause-answer c = judged_right c.args.reader _ (scheme_fault c.args.reader.defs) c.in-Ok.ensures.right c.in-Ok.ensures.made

pub returns-in-Err : goal.returns-in-Err
returns-in-Err c = rw c.no_scheme.ensures (record {
  answer = judged_wrong c.in-Err.end c.args.reader c.in-Err.ensures.refused;
  memory = λ e. judged_forgone c.in-Err.end c.args.reader c.in-Err.ensures.refused cc;
})
