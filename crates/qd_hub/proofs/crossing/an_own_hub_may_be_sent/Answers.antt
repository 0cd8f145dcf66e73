use denote.Param.Send.{sendable}
use Rattle.qd_hub.proofs.Sending.{own_send}
use Rattle.qd_hub.proofs.crossing.an_own_hub_may_be_sent.Goals as goal

pub may_be_sent-requires-send-T : goal.may_be_sent-requires-send-T
may_be_sent-requires-send-T c κs = search (sendable, own_send) depth 20
