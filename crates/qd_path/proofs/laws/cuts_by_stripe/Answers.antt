use Rattle.qd_path.proofs.Cuts.{cuts_by_stripe}
use Rattle.qd_path.proofs.laws.cuts_by_stripe.Goals as goal

pub returns : goal.returns
returns g c = cuts_by_stripe g.T.Keyed.key_of
