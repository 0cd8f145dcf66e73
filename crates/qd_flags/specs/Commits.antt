-- How what is kept of a key's events is stored.
use Rattle.std.specs.Prelude.{◌-◌, ◌≤◌, min, List, [], length, if◌then◌else◌, vec_capacity}
use Rattle.qd_scheme.specs.declared.key.Event.{Event}
use Rattle.qd_flags.specs.declared.commits.Commits.TheInside.{Inside}
use Rattle.qd_flags.specs.Following.{Tracked}

-- the events held back: those stored, unless they are a commit's
abbrev pub held_in : Inside → List Event
held_in a = if a.committed then [] else a.events.items

abbrev pub tracked : Inside → Tracked
tracked a = record {
  now = record {
    entries = a.entries.entries;
    floor = a.floor;
    held = held_in a;
    batch = if a.committed then a.events.items else [];
    begun = a.begun;
    end = a.end;
  };
  spare = min a.entries.spare (vec_capacity a.events) - length (held_in a);
}

-- each event held back has room among the entries
pub record HasRoom (a : Inside) : Type 0 where
  pub room : length (held_in a) ≤ a.entries.spare
