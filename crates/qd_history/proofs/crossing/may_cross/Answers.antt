use denote.Param.Send.{sendable}
use Rattle.qd_history.proofs.Sending.{stripe_send}
use Rattle.qd_history.proofs.crossing.may_cross.Goals as goal

pub may_be_sent-requires-send-T : goal.may_be_sent-requires-send-T
may_be_sent-requires-send-T c κs = search (sendable, stripe_send) depth 20
