-- How the state of a key is stored.
use Rattle.std.specs.Prelude.{List}
use Rattle.qd_scheme.specs.declared.key.Event.{Event}
use Rattle.qd_hist_key.specs.declared.key_state.KeyState.TheInside.{Inside}
use Rattle.qd_hist_key.specs.Kept.{Kept}
use Rattle.qd_hist_key.specs.Keeping.{StandsFor, AllFit}

abbrev pub kept : Inside → Kept
kept a = record { now = a.commits.now; width = a.width; spare = a.commits.spare }

-- some events came, each as an event is
pub record HasPast (a : Inside) : Type 0 where
  pub past : List Event
  pub stands : StandsFor (kept a) past
  pub fits : AllFit past
