-- What is kept of all keys by slot, and how many events are kept and held back in all.
use Rattle.std.specs.Prelude.{ℕ, ◌≡◌, if◌then◌else◌, Option, Some, None, List, [], slice_index_or}
use Rattle.std.specs.List.{sum_by}
use Rattle.qd_scheme.specs.declared.key.Key.{Key}
use Rattle.qd_table.specs.Tables.{Table, slot_for, is_wanted_slot}
use Rattle.qd_hist_stand.specs.Stripes.{Track, no_track, size_of}

pub record Tracks : Type 0 where
  pub list : List Track
  pub stock : ℕ

abbrev pub no_tracks : Tracks
no_tracks = record { list = []; stock = 0 }

abbrev pub track_at : List Track → ℕ → Track
track_at tracks slot = slice_index_or tracks slot no_track

-- how many events are kept and held back of a slot's key
abbrev pub track_size : Track → ℕ
track_size t = size_of t.state

-- the stock is the number of events kept and held back of all slots
abbrev pub IsStocked : List Track → ℕ → Type 0
IsStocked tracks stock = stock ≡ sum_by track_size tracks

-- of a slot the same is kept, but for the room
pub record IsSameTrack (s t : Track) : Type 0 where
  pub now : t.state.now ≡ s.state.now
  pub width : t.state.width ≡ s.state.width
  pub number : t.number ≡ s.number

abbrev pub wanted_in : Table → Option ℕ → Option ℕ
wanted_in t None = None
wanted_in t (Some slot) = if is_wanted_slot t slot then Some slot else None

-- the slot of a key to which some agent is subscribed
abbrev pub wanted_slot : Table → Key → Option ℕ
wanted_slot t k = wanted_in t (slot_for t k)
