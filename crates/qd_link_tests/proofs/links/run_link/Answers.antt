use denote.Param.Send.{sendable}
use Rattle.std.proofs.Crossing.{crosses, send}
use Rattle.qd_hub.proofs.Sending.{client_send}
use Rattle.qd_link_tests.proofs.links.Sending.{source_send, bell_send}
use Rattle.qd_link_tests.proofs.links.run_link.Goals as goal

pub join-is_read-requires-send-F : goal.join-is_read-requires-send-F
join-is_read-requires-send-F g c κs within = search (sendable, crosses, send, client_send, source_send, bell_send, c.type_bounds.sync-R) depth 40
