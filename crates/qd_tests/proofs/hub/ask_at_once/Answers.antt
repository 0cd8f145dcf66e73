use denote.Param.Send.{sendable}
use Rattle.std.proofs.Crossing.{crosses, send}
use Rattle.qd_hub.proofs.Sending.{client_send}
use Rattle.qd_tests.proofs.hub.ask_at_once.Goals as goal

pub join-first-requires-send-F : goal.join-first-requires-send-F
join-first-requires-send-F g c κs within = search (sendable, crosses, send, client_send, c.type_bounds.sync-R) depth 40

pub join-first-requires-send-A : goal.join-first-requires-send-A
join-first-requires-send-A g c κs within = search (sendable, client_send) depth 20
