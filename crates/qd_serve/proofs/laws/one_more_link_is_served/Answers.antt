use Rattle.qd_serve.proofs.OneMore.{taken_next}
use Rattle.qd_serve.proofs.laws.one_more_link_is_served.Goals as goal

pub returns : goal.returns
returns c = taken_next
