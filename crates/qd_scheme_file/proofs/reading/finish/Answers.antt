use Rattle.qd_scheme_file.proofs.EndLaws.{judged_last}
use Rattle.qd_scheme_file.proofs.reading.finish.Goals as goal

pub returns-in-Ok : goal.returns-in-Ok
returns-in-Ok c = judged_last _ c.args.reader _ _ _ c.in-Ok.ensures c.judged.ensures.answer
