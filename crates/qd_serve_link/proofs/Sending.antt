-- What of a link crosses threads: its scheme, and a bell.
use denote.Param.Send.{IsSend, IsSync, sendable}
use Rattle.std.proofs.Crossing.{crosses}
use Rattle.qd_bell.proofs.tower.Tower.TheSendSync.{the_send as tower_send, the_sync as tower_sync}
use Rattle.qd_bell.specs.contracts.real_bell.RealBell as RealBell
use Rattle.qd_scheme.specs.contracts.scheme.Scheme as Scheme

pub scheme_send : IsSend Scheme.the_field.row
scheme_send = search (sendable, crosses) depth 30

pub scheme_sync : IsSync Scheme.the_field.row
scheme_sync = search (sendable, crosses) depth 30

pub bell_send : IsSend RealBell.the_field.row
bell_send = search (sendable, crosses, tower_send, tower_sync) depth 20
