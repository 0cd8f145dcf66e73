use Rattle.qd_views.proofs.TickerViews.{ticker_view}
use Rattle.qd_views.proofs.laws.ticker_law.Goals as goal

pub returns : goal.returns
returns c = ticker_view
