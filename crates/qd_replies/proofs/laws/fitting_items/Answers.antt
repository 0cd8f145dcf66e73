use Rattle.qd_replies.proofs.Fitting.{fitting_items}
use Rattle.qd_replies.proofs.laws.fitting_items.Goals as goal

pub returns : goal.returns
returns c = fitting_items
