-- What is kept of the events of one key while they come.
use Rattle.std.specs.Prelude.{◌≡◌, ℕ, Bool, true, false, ◌&&◌, ◌||◌, ◌==◌, nat_le, List, [], ◌∷◌, ◌++◌, reverse, Option, Some, None, option_map, is_some, if◌then◌else◌}
use Rattle.qd_scheme.specs.declared.key.Event.{Event}
use Rattle.qd_entries.specs.declared.Entry.{Entry}
use Rattle.qd_entries.specs.Entries.{Falls, cells_at, put_entry, without_index}
use Rattle.qd_flags.specs.declared.commits.Floor.{Floor}
use Rattle.qd_flags.specs.declared.commits.Ingest.{Ingest}
use Rattle.qd_flags.specs.declared.commits.Ingest.TheVariants.{Ignored, Held, Update, Snapshot}
use Rattle.qd_flags.specs.Bits.{is_remove, is_begin, is_snip}
use Rattle.qd_flags.specs.Shown.{Map, Shown, ends, has_begin, since_begin, first_end, shown, last_shown, after_place, events_of, held_back, last_batch, or_else}

-- what is kept: the map and the floor of the last commit place, the events held back after it in order, those of the commit that
-- the newest event made, whether a BEGIN came since the commit place, and the first end at or after the last BEGIN
pub record Following : Type 0 where
  pub entries : List Entry
  pub floor : Option Floor
  pub held : List Event
  pub batch : List Event
  pub begun : Bool
  pub end : Option Floor

-- what is kept, and how many events may come before there must be more room
pub record Tracked : Type 0 where
  pub now : Following
  pub spare : ℕ

-- nothing came yet
abbrev pub nothing : Following
nothing = record { entries = []; floor = None; held = []; batch = []; begun = false; end = None }

abbrev pub floor_of : Shown → Floor
floor_of s = record { index = s.floor; snipped = s.snipped }

abbrev pub end_of : Event → Option Floor
end_of e = if ends e then Some (record { index = e.index; snipped = is_snip e }) else None

abbrev pub map_at : Option Shown → Map
map_at None q = None
map_at (Some s) q = s.map q

-- a map after events at or above a floor, the newest first
abbrev pub over : ℕ → List Event → Map → Map
over f [] m q = m q
over f (e ∷ es) m q = if e.index == q && nat_le f q then (if is_remove e then None else Some e.cells) else over f es m q

abbrev pub end_in : List Event → Option Floor
end_in es = option_map (λ e. record { index = e.index; snipped = is_snip e }) (first_end es)

-- the map that a commit place begins with
abbrev pub start_of : Bool → Map → Map
start_of true m q = None
start_of false m q = m q

-- the first end at or after the last BEGIN, after one more event
abbrev pub next_end : Option Floor → Event → Option Floor
next_end end e = if is_begin e then end_of e else or_else end (end_of e)

-- what is held back after one more event that makes no commit place
abbrev pub next_held : List Event → Event → List Event
next_held held e = if is_begin e then e ∷ [] else held ++ e ∷ []

-- the entries after an event at or above a floor
abbrev pub applied : ℕ → Event → List Entry → List Entry
applied f e xs = if nat_le f e.index then (if is_remove e then without_index e.index xs else put_entry (record { index = e.index; cells = e.cells }) xs) else xs

-- the entries after events in order
abbrev pub all_applied : ℕ → List Event → List Entry → List Entry
all_applied f [] xs = xs
all_applied f (e ∷ es) xs = all_applied f es (applied f e xs)

-- the event has a BEGIN, or one came before
abbrev pub takes : Event → Following → Bool
takes e s = is_begin e || s.begun || is_some s.floor

-- after a new event: the events of the last commit are told no more
abbrev pub forgotten : Following → Following
forgotten s = record { entries = s.entries; floor = s.floor; held = s.held; batch = []; begun = s.begun; end = s.end }

-- the event is held back
abbrev pub with_held : Event → Following → Following
with_held e s = record { entries = s.entries; floor = s.floor; held = next_held s.held e; batch = []; begun = is_begin e || s.begun; end = next_end s.end e }

-- what is held back becomes a commit with this floor
abbrev pub with_commit : Floor → Following → Following
with_commit f s = record {
  entries = all_applied f.index s.held (if s.begun then [] else s.entries);
  floor = Some f;
  held = [];
  batch = s.held;
  begun = false;
  end = Some f;
}

-- these events came, the newest first
pub record StandsFor (s : Following) (past : List Event) : Type 0 where
  pub floor_is : s.floor ≡ option_map floor_of (last_shown past)
  pub falls : Falls s.entries
  pub map_is : (q : ℕ) → cells_at s.entries q ≡ map_at (last_shown past) q
  pub held_is : s.held ≡ reverse (held_back past)
  pub batch_is : s.batch ≡ reverse (last_batch past)
  pub begun_is : s.begun ≡ has_begin (after_place past)
  pub end_is : s.end ≡ end_in (since_begin past)

-- the answer to the newest event: Ignored where there was no BEGIN, Snapshot or Update where it makes a commit, else Held
abbrev pub answer_to : List Event → Ingest
answer_to es = if has_begin es then (if is_some (shown es) then (if has_begin (events_of es) then Snapshot else Update) else Held) else Ignored
