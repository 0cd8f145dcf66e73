-- What the state of a key is seen as.
use Rattle.std.specs.Prelude.{ℕ, Option}
use Rattle.qd_flags.specs.Following.{Following}

-- what is kept of the events, how many cells the last BEGIN event has, and how many events there is room for
pub record Kept : Type 0 where
  pub now : Following
  pub width : Option ℕ
  pub spare : ℕ
