use denote.Param.Send.{sendable}
use Rattle.std.proofs.Crossing.{crosses}
use Rattle.qd_serve_link.proofs.job.fn.start_link.work+FnOnce.call_once.Goals as goal

pub work-requires : goal.work-requires
work-requires g c = (search (sendable, crosses) depth 40, (search (sendable, crosses) depth 40, (search (sendable, crosses) depth 40, (search (sendable, crosses) depth 40, search (sendable, crosses) depth 40))))
