use Rattle.qd_hist_stand.proofs.Put.{put_stands}
use Rattle.qd_hist_stand.proofs.laws.put_stands.Goals as goal

pub returns : goal.returns
returns c = record { put = put_stands }
