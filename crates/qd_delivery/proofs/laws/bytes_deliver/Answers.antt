use Rattle.qd_delivery.proofs.Delivered.{ticker_delivers, stream_delivers, history_delivers}
use Rattle.qd_delivery.proofs.laws.bytes_deliver.Goals as goal

pub returns-clause-ticker : goal.returns-clause-ticker
returns-clause-ticker c = ticker_delivers

pub returns-clause-stream : goal.returns-clause-stream
returns-clause-stream c = stream_delivers

pub returns-clause-history : goal.returns-clause-history
returns-clause-history c = history_delivers
