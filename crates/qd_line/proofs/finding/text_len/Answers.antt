use Rattle.std.proofs.Common.{arith}
use Rattle.qd_line.proofs.Texts.{text_with_cr, text_whole}
use Rattle.qd_line.proofs.finding.text_len.Goals as goal
use Rattle.qd_line.proofs.finding.text_len.Goals.{else-len-gt0-via-then-len-gt0+else-line-len-eq13, else-len-gt0-via-else-len-gt0}

pub returns-then-line-len-eq13-clause-text : goal.returns-then-line-len-eq13-clause-text
returns-then-line-len-eq13-clause-text c = text_with_cr c.args.line.now c.if-len-gt0.true c.if-line-len-eq13.true

pub returns-clause-text : goal.returns-clause-text
returns-clause-text c = text_whole c.args.line.now (λ some cr. elim c.else-len-gt0.branch [
  | else-len-gt0-via-then-len-gt0+else-line-len-eq13 w ↦ w.if-line-len-eq13.false cr
  | else-len-gt0-via-else-len-gt0 w ↦ absurd (omega arith)
])
