use denote.Param.Send.{sendable}
use Rattle.std.proofs.Crossing.{crosses}
use Rattle.qd_hub.proofs.Sending.{client_send}
use Rattle.qd_serve_link.proofs.Sending.{scheme_sync, bell_send}
use Rattle.qd_serve_link.proofs.job.run_link.Goals as goal

pub join-read-requires-send-F : goal.join-read-requires-send-F
join-read-requires-send-F g c κs within = let s = c.type_bounds.send-S in let y = c.type_bounds.sync-R in search (sendable, crosses, client_send, scheme_sync, bell_send) depth 40

pub join-read-requires-send-A : goal.join-read-requires-send-A
join-read-requires-send-A g c κs within = let s = c.type_bounds.send-S in search (sendable, crosses, client_send) depth 40
