use Rattle.qd_session.proofs.Ending.{ends_at_once}
use Rattle.qd_session.proofs.laws.ends_at_once.Goals as goal

pub returns : goal.returns
returns c = ends_at_once
