use Rattle.qd_replies.proofs.Beginnings.{stands_new}
use Rattle.qd_replies.proofs.out_engine.OutEngine.new.Goals as goal

pub returns-clause-stands : goal.returns-clause-stands
returns-clause-stands c = stands_new c.args.side
