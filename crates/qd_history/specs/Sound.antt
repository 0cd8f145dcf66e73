-- What is true of the fields of a stripe.
use Rattle.std.specs.Prelude.{ℕ, ◌≡◌, ◌<◌, ◌≤◌, ◌^◌, true, Some, length}
use Rattle.qd_scheme.specs.declared.key.Key.{Key}
use Rattle.qd_slots.specs.Holds.{is_subscribed}
use Rattle.qd_table.specs.Tables.{slots_in, key_at, hold_for}
use Rattle.qd_hist_stand.specs.Stripes.{Shown, side_at, owed_at}

-- there is a place for each slot with a key, and for each subscription
pub record IsPlaced (s : Shown) : Type 0 where
  pub agents : length s.sides ≡ 128
  pub tracks : (slot : ℕ) (k : Key) → key_at s.table slot ≡ Some k → slot < length s.tracks
  pub feeds : (a slot : ℕ) → is_subscribed (hold_for s.table a slot) ≡ true → slot < length (side_at s a).feeds
  pub slots : (a slot : ℕ) → is_subscribed (hold_for s.table a slot) ≡ true → slot < (side_at s a).queue.slots

-- no more is kept, owed and numbered than may be
pub record IsWithin (s : Shown) : Type 0 where
  pub some : 1 ≤ s.hcap
  pub few : s.hcap ≤ 4096
  pub owed : (a : ℕ) → owed_at s a ≤ s.hcap
  pub stock : s.stock ≤ 262144
  pub count : s.count ≤ 2 ^ 63

-- and there is a place in the tally for each track
pub record IsSound (s : Shown) (tally : ℕ) : Type 0 where
  pub placed : IsPlaced s
  pub within : IsWithin s
  pub tallied : length s.tracks ≤ tally

-- there is room for each slot, and for an agent to have each of them
pub record HasSlots (s : Shown) (a : ℕ) : Type 0 where
  pub tracks : slots_in s.table ≤ length s.tracks
  pub feeds : slots_in s.table ≤ length (side_at s a).feeds
  pub slots : slots_in s.table ≤ (side_at s a).queue.slots
