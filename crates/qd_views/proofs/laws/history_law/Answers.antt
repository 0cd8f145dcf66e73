use Rattle.qd_views.proofs.HistoryViews.{history_view, never_back}
use Rattle.qd_views.proofs.laws.history_law.Goals as goal

pub returns-clause-shows : goal.returns-clause-shows
returns-clause-shows c = history_view

pub returns-clause-never_back : goal.returns-clause-never_back
returns-clause-never_back c = never_back
