use Rattle.qd_views.proofs.StreamViews.{stream_view}
use Rattle.qd_views.proofs.laws.stream_law.Goals as goal

pub returns : goal.returns
returns c = stream_view
