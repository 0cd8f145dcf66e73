use denote.Param.Send.{sendable}
use Rattle.qd_hub.proofs.Sending.{shared_sync}
use Rattle.qd_hub.proofs.crossing.gates_may_be_shared.Goals as goal

pub may_be_shared-requires-sync-T : goal.may_be_shared-requires-sync-T
may_be_shared-requires-sync-T c κs = search (sendable, shared_sync) depth 20
