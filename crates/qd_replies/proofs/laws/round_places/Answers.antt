use Rattle.qd_replies.proofs.Quiets.{round_places}
use Rattle.qd_replies.proofs.laws.round_places.Goals as goal

pub returns : goal.returns
returns c = round_places
