use denote.Param.Send.{sendable}
use Rattle.qd_hub.proofs.Sending.{shared_send}
use Rattle.qd_hub.proofs.crossing.gates_may_be_sent.Goals as goal

pub may_be_sent-requires-send-T : goal.may_be_sent-requires-send-T
may_be_sent-requires-send-T c κs = search (sendable, shared_send) depth 20
