use denote.Param.Send.{sendable}
use Rattle.std.proofs.Crossing.{crosses, send}
use Rattle.qd_link_tests.proofs.links.Sending.{link_send}
use Rattle.qd_link_tests.proofs.links.run_both.Goals as goal

pub join-requires-send-F : goal.join-requires-send-F
join-requires-send-F g c κs within = search (sendable, crosses, send, link_send, c.type_bounds.sync-R) depth 40
