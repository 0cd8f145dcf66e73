use denote.Param.Send.{sendable}
use Rattle.std.proofs.Crossing.{crosses}
use Rattle.qd_hub.proofs.Sending.{client_send}
use Rattle.qd_serve_link.proofs.Sending.{scheme_send, scheme_sync, bell_send}
use Rattle.qd_serve_link.proofs.job.start_link.Goals as goal

pub start_with-requires-send-F : goal.start_with-requires-send-F
start_with-requires-send-F g c κs within = let r = c.type_bounds.send-R in let s = c.type_bounds.send-S in let k = c.type_bounds.send-K in search (sendable, crosses, client_send, scheme_send, scheme_sync, bell_send) depth 40

pub start_with-requires-send-T : goal.start_with-requires-send-T
start_with-requires-send-T g c κs within = let s = c.type_bounds.send-S in let k = c.type_bounds.send-K in search (sendable, crosses, client_send) depth 40
