-- What a node ends as, where its hub is lent.
use Rattle.std.specs.Borrow.{Lends, Fml, RattleType, MutBor}
use Rattle.qd_hub.specs.declared.hub.Hub.{Ghosts}
use Rattle.qd_relay.specs.contracts.node.Node.{the_row}
use Rattle.qd_relay.specs.Nodes.{NodeKept, with_hub}

-- once the borrow ends, the node has the hub that was left behind it
abbrev pub LendsHub : (H : RattleType) (hub : Ghosts H.Denot) → MutBor (NodeKept H.Denot) → MutBor H.Denot → Fml
LendsHub H hub s r = Lends (the_row H hub) H s r (with_hub s.now)
