-- Whether there is room for the events of a Put.
use Rattle.std.specs.Prelude.{ℕ, suc, ◌≡◌, ◌⊎◌, ◌<◌, ◌≤◌, ◌+◌, ◌^◌, Bool, true, false, nat_eq, if◌then◌else◌, Option, Some, None, List, [], ◌∷◌, length, filter, slice_index_or}
use Rattle.qd_scheme.specs.declared.key.Event.{Event}
use Rattle.qd_scheme.specs.declared.key.Key.{Key}
use Rattle.qd_slots.specs.Holds.{is_subscribed}
use Rattle.qd_table.specs.Tables.{Table, key_at, hold_for, is_wanted_key}
use Rattle.qd_hist_stand.specs.Stripes.{Shown, Track, Side}
use Rattle.qd_history.specs.Tracks.{Tracks, IsSameTrack, track_at, wanted_slot}
use Rattle.qd_history.specs.Sides.{IsSameSide, sided_at, spared_at, HasRoom}

-- it is this slot
abbrev pub is_slot : ℕ → Option ℕ → Bool
is_slot slot None = false
is_slot slot (Some i) = nat_eq i slot

-- how many of the events are of a wanted slot's key
abbrev pub count_at : Table → ℕ → List Event → ℕ
count_at t slot [] = 0
count_at t slot (e ∷ es) = (if is_slot slot (wanted_slot t e.key) then suc (count_at t slot es) else count_at t slot es)

-- how many of the events are of wanted keys
abbrev pub wanted_count : Table → List Event → ℕ
wanted_count t es = length (filter (λ e. is_wanted_key t e.key) es)

-- there is room for so many events of a slot's key, and for what comes to be owed of them
pub record HasPlace (hcap : ℕ) (table : Table) (tracks : List Track) (sides : List Side) (slot n : ℕ) : Type 0 where
  pub state : n ≤ (track_at tracks slot).state.spare
  pub feeds : (a : ℕ) → is_subscribed (hold_for table a slot) ≡ true → HasRoom hcap (spared_at (sided_at sides a) slot) (length (track_at tracks slot).state.now.held + n)

-- there is room for all of these events
abbrev pub HasPlaces : ℕ → Table → List Track → List Side → List Event → Type 0
HasPlaces hcap table tracks sides es = (slot : ℕ) → 0 < count_at table slot es → HasPlace hcap table tracks sides slot (count_at table slot es)

-- the events may be put
pub record CanPut (s : Shown) (es : List Event) : Type 0 where
  pub places : HasPlaces s.hcap s.table s.tracks s.sides es
  pub stock : s.stock + wanted_count s.table es ≤ 262144
  pub count : s.count + length es ≤ 2 ^ 63

-- how many events of a slot were counted
abbrev pub tally_at : List ℕ → ℕ → ℕ
tally_at tally slot = slice_index_or tally slot 0

-- with those still to come as many were counted as there are, and for those that were counted there is room
pub record IsTallied (hcap : ℕ) (t : Table) (items left : List Event) (tally : List ℕ) (tracks : List Track) (sides : List Side) : Type 0 where
  pub counts : (slot : ℕ) → 0 < count_at t slot items → tally_at tally slot + count_at t slot left ≡ count_at t slot items
  pub places : (slot : ℕ) → 0 < count_at t slot items → (tally_at tally slot ≡ 0) ⊎ HasPlace hcap t tracks sides slot (tally_at tally slot)

-- there is a place in a tally of this length for each key's slot
abbrev pub IsTally : Table → ℕ → Type 0
IsTally t len = (slot : ℕ) (k : Key) → key_at t slot ≡ Some k → slot < len

-- and in the tracks, and in each subscribed agent's feeds
pub record HasAll (t : Table) (tally tracks : ℕ) (sides : List Side) : Type 0 where
  pub tallied : IsTally t tally
  pub tracked : IsTally t tracks
  pub agents : length sides ≡ 128
  pub feeds : (a slot : ℕ) → is_subscribed (hold_for t a slot) ≡ true → slot < length (sided_at sides a).feeds

-- of all slots the same is kept, but for the room
pub record KeepsTracks (old new : Tracks) : Type 0 where
  pub same : (i : ℕ) → IsSameTrack (track_at old.list i) (track_at new.list i)
  pub stock : new.stock ≡ old.stock
  pub len : length new.list ≡ length old.list

pub record KeepsSides (old new : List Side) : Type 0 where
  pub same : (a : ℕ) → IsSameSide (sided_at old a) (sided_at new a)
  pub len : length new ≡ length old

-- and the room of other slots stays
pub record KeepsOthers (slot : ℕ) (old new : Tracks) : Type 0 where
  pub keeps : KeepsTracks old new
  pub others : (i : ℕ) → nat_eq i slot ≡ false → track_at new.list i ≡ track_at old.list i

pub record KeepsOtherFeeds (slot : ℕ) (old new : List Side) : Type 0 where
  pub keeps : KeepsSides old new
  pub others : (a i : ℕ) → nat_eq i slot ≡ false → spared_at (sided_at new a) i ≡ spared_at (sided_at old a) i
