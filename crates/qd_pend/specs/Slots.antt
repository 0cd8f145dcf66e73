-- Which slots wait, in which order, and what a call leaves of them.
use Rattle.std.specs.Prelude.{ℕ, ◌≡◌, ◌<◌, Bool, true, false, not, nat_eq, if◌then◌else◌, Option, Some, None, List, [], ◌∷◌}
use Rattle.std.specs.List.{list_any, filter}

-- the slots of a queue, the one that came first at the head, and how many slot numbers there is room for
pub record SlotList : Type 0 where
  pub list : List ℕ
  pub slots : ℕ

-- the slot is in the list
abbrev pub has : List ℕ → ℕ → Bool
has list slot = list_any (nat_eq slot) list

-- the list without the slot
abbrev pub without : List ℕ → ℕ → List ℕ
without list slot = filter (λ other. not (nat_eq slot other)) list

-- nothing is in the list
abbrev pub list_is_empty : List ℕ → Bool
list_is_empty [] = true
list_is_empty (slot ∷ rest) = false

-- the first of the list
abbrev pub first_in : List ℕ → Option ℕ
first_in [] = None
first_in (slot ∷ rest) = Some slot

-- all but the first
abbrev pub rest_of : List ℕ → List ℕ
rest_of [] = []
rest_of (slot ∷ rest) = rest

-- the one right after the slot
unfoldable pub next_in : List ℕ → ℕ → Option ℕ
next_in [] slot = None
next_in (first ∷ rest) slot = if nat_eq slot first then first_in rest else next_in rest slot

-- no slot stands twice
unfoldable pub EachOnce : List ℕ → Type 0
EachOnce [] = Unit {0}
EachOnce (slot ∷ rest) = (has rest slot ≡ false) × EachOnce rest

-- every slot of the list is below a number
abbrev pub EachBelow : ℕ → List ℕ → Type 0
EachBelow slots list = (slot : ℕ) → has list slot ≡ true → slot < slots
