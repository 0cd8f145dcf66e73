use Rattle.qd_replies.proofs.Quiets.{exactly_idle}
use Rattle.qd_replies.proofs.laws.exactly_idle.Goals as goal

pub returns : goal.returns
returns c = exactly_idle
