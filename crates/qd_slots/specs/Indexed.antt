-- How the slots of keys are stored.
use Rattle.std.specs.Prelude.{ℕ, ◌≡◌, ◌+◌, ◌≤◌, ◌<◌, ◌^◌, Option, List, length}
use Rattle.qd_scheme.specs.declared.seeded.SeededState.{SeededState}
use Rattle.indexmap.specs.IndexMap.{IndexMap, get, spare}
use Rattle.qd_scheme.specs.declared.key.Key.{Key}
use Rattle.qd_scheme.specs.Keys.{key_eq}
use Rattle.qd_pend.specs.Slots.{SlotList, EachOnce}
use Rattle.qd_slots.specs.Names.{slot_in, named_in, IsFound, IsVacant}

-- the map leads from each key to its slot, each slot has a key or is free, and what is free can be named
pub record IsIndexed (slots : IndexMap Key ℕ SeededState) (names : List (Option Key)) (free : SlotList) (free_count room : ℕ) : Type 0 where
  pub looked : (k : Key) → get key_eq slots k ≡ slot_in names k
  pub found : IsFound names
  pub vacant : IsVacant names free.list
  pub once : EachOnce free.list
  pub numbers : length names ≤ free.slots
  pub few : length names < 2 ^ 32
  pub counted : free_count ≡ length free.list
  pub all : length (named_in names) + free_count ≡ length names
  pub room_free : room ≤ free_count
  pub room_spare : room ≤ spare slots
