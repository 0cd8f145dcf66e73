-- What a link does that runs on two clients of a hub: which calls each made, what was read and written, and how both halves ended.
use Rattle.std.specs.Prelude.{ℕ, ◌≡◌, ◌^◌, List}
use Rattle.qd_scheme.specs.declared.defs.RecordDef.{RecordDef}
use Rattle.qd_hub.specs.Clients.{Client, IsPassAt}
use Rattle.qd_path.specs.declared.side.Side.{Side}
use Rattle.qd_path.specs.Lists.{Lists, AreOf}
use Rattle.qd_session.specs.declared.ends.InEnd.{InEnd}
use Rattle.qd_session.specs.Ins.{Sourced}
use Rattle.qd_replies.specs.Outs.{Sunk}
use Rattle.qd_link.specs.declared.ends.OutEnd.{OutEnd}
use Rattle.qd_link.specs.LinkIns.{LinkedIn}
use Rattle.qd_link.specs.LinkOuts.{LinkedOut}

-- the lists for which a client stands, by collector and stripe
abbrev pub IsOf : Client → Lists → Type 0
IsOf c l = AreOf c.sizes.stripes (IsPassAt c.ticker) (IsPassAt c.stream) (IsPassAt c.history) l

-- the client is of the same gates, of as many stripes
pub record IsSameHub (c d : Client) : Type 0 where
  pub home : d.home ≡ c.home
  pub stripes : d.sizes.stripes ≡ c.sizes.stripes

-- the reading half ran on a client: of whatever lists this was, it is of those with just the calls of the link
pub record IsReadBy (defs : List RecordDef) (side : Side) (end : InEnd) (c d : Client) (s t : Sourced) : Type 0 where
  pub same : IsSameHub c d
  pub linked : (l : Lists) → IsOf c l → (m : Lists) × IsOf d m × LinkedIn defs c.sizes.stripes side end l m s t

-- how many steps the writing half makes at most: it is to end when its bell is shut
abbrev pub most_turns : ℕ
most_turns = 2 ^ 63

-- the writing half ran on a client: the same
pub record IsWrittenBy (defs : List RecordDef) (side : Side) (end : OutEnd) (c d : Client) (o w : Sunk) : Type 0 where
  pub same : IsSameHub c d
  pub linked : (l : Lists) → IsOf c l → (m : Lists) × IsOf d m × LinkedOut defs c.sizes.stripes side end most_turns l m o w
