-- Which key has which slot.
use Rattle.std.specs.Prelude.{ℕ, zero, suc, ◌≡◌, ◌<◌, ◌≤◌, ◌^◌, ◌++◌, Bool, true, false, if◌then◌else◌, nat_lt, Option, Some, None, List, [], ◌∷◌, ◌+◌, ◌-◌, length, max, slice_index_or}
use Rattle.std.specs.List.{filter_map}
use Rattle.qd_scheme.specs.declared.key.Key.{Key}
use Rattle.qd_scheme.specs.Keys.{key_eq}
use Rattle.qd_pend.specs.Slots.{SlotList, has, EachOnce}

-- the key of each slot, none where it is free, and how many keys can be named without memory
pub record NameList : Type 0 where
  pub names : List (Option Key)
  pub room : ℕ

-- the slot is k's
abbrev pub is_name : Key → Option Key → Bool
is_name k None = false
is_name k (Some j) = key_eq k j

-- the first slot of k, counted from a number on
unfoldable pub slot_from : ℕ → List (Option Key) → Key → Option ℕ
slot_from i [] k = None
slot_from i (name ∷ names) k = if is_name k name then Some i else slot_from (suc i) names k

-- the slot of k
abbrev pub slot_in : List (Option Key) → Key → Option ℕ
slot_in names k = slot_from 0 names k

-- the key of a slot
abbrev pub name_at : List (Option Key) → ℕ → Option Key
name_at names i = slice_index_or names i None

-- the keys that have a slot, in the order of their slots
abbrev pub named_in : List (Option Key) → List Key
named_in names = filter_map (λ name. name) names

-- so many free slots
unfoldable pub nones : ℕ → List (Option Key)
nones zero = []
nones (suc n) = None ∷ nones n

-- a number above all slots once there is room to name this many keys
unfoldable pub slots_with : NameList → ℕ → ℕ
slots_with n more = if nat_lt n.room more then length n.names + more else length n.names

-- each key is found at its slot, so no key has two
abbrev pub IsFound : List (Option Key) → Type 0
IsFound names = (i : ℕ) (k : Key) → name_at names i ≡ Some k → slot_in names k ≡ Some i

-- these slots are free
abbrev pub IsVacant : List (Option Key) → List ℕ → Type 0
IsVacant names free = (i : ℕ) → has free i ≡ true → (i < length names) × (name_at names i ≡ None)

-- free slots were added
abbrev pub IsGrown : List (Option Key) → List (Option Key) → Type 0
IsGrown old new = (n : ℕ) × (new ≡ old ++ nones n)

-- free slots were added, as many as the free ones (`count`) fell short of what was asked for
pub record IsReady (old new : List (Option Key)) (free : SlotList) (count more : ℕ) : Type 0 where
  pub grown : IsGrown old new
  pub added : length new ≡ length old + (more - count)
  pub vacant : IsVacant new free.list
  pub once : EachOnce free.list
  pub numbers : length new ≤ free.slots
  pub few : length new < 2 ^ 32
  pub counted : length free.list ≡ max count more
