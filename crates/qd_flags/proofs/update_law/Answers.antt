use Rattle.std.proofs.Common.{List, ℕ}
use Rattle.qd_scheme.specs.declared.key.Event.{Event}
use Rattle.qd_flags.specs.Shown.{Shown}
use Rattle.qd_flags.specs.Laws.{IsUpdate}
use Rattle.qd_flags.proofs.Places.{same_floor, same_snip}
use Rattle.qd_flags.proofs.Updates.{map_by_events}
use Rattle.qd_flags.proofs.update_law.Goals as goal

pub returns : goal.returns
returns c = record {
  floor = λ (e : Event) (es : List Event) (now was : Shown) (u : IsUpdate e es now was). (same_floor e es now was u.0 u.1 u.2, same_snip e es now was u.0 u.1 u.2);
  map = λ (e : Event) (es : List Event) (now was : Shown) (u : IsUpdate e es now was) (q : ℕ). map_by_events e es now was u.0 u.1 u.2 q;
}
