-- What of a link crosses threads: a client, a peer, a sink, and a bell.
use denote.Param.Send.{IsSend, sendable}
use Rattle.std.proofs.Crossing.{crosses}
use Rattle.qd_hub.proofs.Sending.{client_send}
use Rattle.qd_bell.proofs.tower.Tower.TheSendSync.{the_send as tower_send, the_sync as tower_sync}
use Rattle.qd_bell.specs.contracts.real_bell.RealBell as RealBell
use Rattle.qd_link_tests.specs.contracts.pipe.WaitingSource as WaitingSource
use Rattle.qd_link_tests.specs.contracts.pipe.SeenSink as SeenSink
use Rattle.qd_link_tests.specs.contracts.links.Link as Link

pub source_send : IsSend WaitingSource.the_field.row
source_send = search (sendable, crosses) depth 20

pub sink_send : IsSend SeenSink.the_field.row
sink_send = search (sendable, crosses) depth 20

pub bell_send : IsSend RealBell.the_field.row
bell_send = search (sendable, crosses, tower_send, tower_sync) depth 20

pub link_send : IsSend Link.the_field.row
link_send = let s = source_send in let k = sink_send in let b = bell_send in search (sendable, crosses, client_send) depth 20
