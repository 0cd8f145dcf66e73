use Rattle.qd_hist_feed.proofs.Giving.{gift_stands}
use Rattle.qd_hist_feed.proofs.laws.gift_is_lawful.Goals as goal

pub returns : goal.returns
returns c = record { gift = gift_stands }
