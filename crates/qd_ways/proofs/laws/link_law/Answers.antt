use Rattle.qd_ways.proofs.TickerPaths.{ticker_link}
use Rattle.qd_ways.proofs.StreamPaths.{stream_link}
use Rattle.qd_ways.proofs.HistoryLinks.{history_link}
use Rattle.qd_ways.proofs.Rises.{history_rises}
use Rattle.qd_ways.proofs.laws.link_law.Goals as goal

pub returns-clause-ticker : goal.returns-clause-ticker
returns-clause-ticker c = ticker_link

pub returns-clause-stream : goal.returns-clause-stream
returns-clause-stream c = stream_link

pub returns-clause-history : goal.returns-clause-history
returns-clause-history c = history_link

pub returns-clause-history_rises : goal.returns-clause-history_rises
returns-clause-history_rises c = history_rises
