-- What a list of events of one key shows. A list here has its newest event first.
use Rattle.std.specs.Prelude.{ℕ, Bool, true, false, ◌||◌, not, ◌==◌, List, [], ◌∷◌, Option, Some, None, option_map, is_some, if◌then◌else◌, nat_le, ◌++◌, filter}
use Rattle.qd_scheme.specs.declared.key.Event.{Event}
use Rattle.qd_flags.specs.Bits.{is_pending, is_remove, is_begin, is_end, is_snip}
use Rattle.qd_scheme.specs.declared.cells.Cells.{Cells}

-- the cells at each index that has some
abbrev pub Map : Type 0
Map = ℕ → Option Cells

-- the part of a map at indexes at or above f
abbrev pub cut : ℕ → Map → Map
cut f m i = if nat_le f i then m i else None

-- the event ends a snapshot, by END or SNIP
abbrev pub ends : Event → Bool
ends e = (is_end e) || (is_snip e)

abbrev pub has_begin : List Event → Bool
has_begin [] = false
has_begin (e ∷ es) = (is_begin e) || has_begin es

-- the events from the last BEGIN on, none where there is no BEGIN
abbrev pub since_begin : List Event → List Event
since_begin [] = []
since_begin (e ∷ es) = if (is_begin e) then e ∷ [] else if has_begin es then e ∷ since_begin es else []

-- the first event that ends a snapshot
abbrev pub first_end : List Event → Option Event
first_end [] = None
first_end (e ∷ es) = if is_some (first_end es) then first_end es else if ends e then Some e else None

-- what the events leave at an index, in order: one with REMOVE_EVENT takes it out, any other sets it
abbrev pub left_by : List Event → Map
left_by [] i = None
left_by (e ∷ es) i = if e.index == i then (if (is_remove e) then None else Some e.cells) else left_by es i

-- the last event has TX_PENDING, or there is none
abbrev pub is_open : List Event → Bool
is_open [] = true
is_open (e ∷ es) = (is_pending e)

pub record Shown : Type 0 where
  pub map : Map
  pub floor : ℕ
  pub snipped : Bool

-- what the events from a BEGIN on show, None where none of them ends the snapshot
abbrev pub shown_from : List Event → Option Shown
shown_from es = option_map (λ e. record { map = cut e.index (left_by es); floor = e.index; snipped = (is_snip e) }) (first_end es)

-- what the events show where all of them are a commit place, None elsewhere
abbrev pub shown : List Event → Option Shown
shown es = if is_open es then None else shown_from (since_begin es)

-- the indexes at which the events leave cells, each once
abbrev pub left_indexes : List Event → List ℕ
left_indexes [] = []
left_indexes (e ∷ es) = (if (is_remove e) then [] else e.index ∷ []) ++ filter (λ i. not (i == e.index)) (left_indexes es)

abbrev pub or_else : {A : Type 0} → Option A → Option A → Option A
or_else None o = o
or_else (Some x) o = Some x

-- what the last commit place of the events shows, None where there is none
abbrev pub last_shown : List Event → Option Shown
last_shown [] = None
last_shown (e ∷ es) = or_else (shown (e ∷ es)) (last_shown es)

-- the events after the last commit place
abbrev pub after_place : List Event → List Event
after_place [] = []
after_place (e ∷ es) = if is_some (shown (e ∷ es)) then [] else e ∷ after_place es

-- the events without those before the last BEGIN among them
abbrev pub without_stale : List Event → List Event
without_stale es = if has_begin es then since_begin es else es

-- the events after the last commit place without those before the last BEGIN among them; none where there is no BEGIN at all
abbrev pub held_back : List Event → List Event
held_back es = if has_begin (after_place es) then since_begin (after_place es) else if has_begin es then after_place es else []

-- the events of the commit that the newest event makes: those after the commit place before it
abbrev pub events_of : List Event → List Event
events_of [] = []
events_of (e ∷ es) = e ∷ after_place es

-- the events of the commit that the newest event makes, without those before the last BEGIN among them; none where it makes none
abbrev pub last_batch : List Event → List Event
last_batch es = if is_some (shown es) then without_stale (events_of es) else []
