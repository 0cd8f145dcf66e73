use Rattle.qd_ways.proofs.TickerPaths.{ticker_path}
use Rattle.qd_ways.proofs.StreamPaths.{stream_path}
use Rattle.qd_ways.proofs.HistoryPaths.{history_path, origins_rise, origins_stay, never_back}
use Rattle.qd_ways.proofs.laws.path_law.Goals as goal

pub returns-clause-ticker : goal.returns-clause-ticker
returns-clause-ticker c = ticker_path

pub returns-clause-stream : goal.returns-clause-stream
returns-clause-stream c = stream_path

pub returns-clause-history : goal.returns-clause-history
returns-clause-history c = history_path

pub returns-clause-origins_rise : goal.returns-clause-origins_rise
returns-clause-origins_rise c = origins_rise

pub returns-clause-origins_stay : goal.returns-clause-origins_stay
returns-clause-origins_stay c = origins_stay

pub returns-clause-never_back : goal.returns-clause-never_back
returns-clause-never_back c = never_back
