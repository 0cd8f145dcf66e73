use Rattle.qd_hub.proofs.StayingTicker.{ticker_keeps}
use Rattle.qd_hub.proofs.StayingStream.{stream_keeps}
use Rattle.qd_hub.proofs.StayingHistory.{history_keeps}
use Rattle.qd_hub.proofs.laws.keys_stay_in_their_stripe.Goals as goal

pub returns : goal.returns
returns c = record { ticker = ticker_keeps; stream = stream_keeps; history = history_keeps }
