-- How a list of slots is stored as links between places: place 0 is the root, slot s stands at place s + 1.
use Rattle.std.specs.Prelude.{ℕ, zero, suc, ◌≡◌, ◌≤◌, ◌<◌, ◌^◌, true, false, Option, Some, None, List, [], ◌∷◌, map, length, slice_index}
use Rattle.qd_pend.specs.declared.links.Link.{Link}
use Rattle.qd_pend.specs.Slots.{has, EachOnce}

abbrev pub nexts : List Link → List ℕ
nexts links = map (λ l. l.next) links

abbrev pub prevs : List Link → List ℕ
prevs links = map (λ l. l.prev) links

-- so many numbers from one on
unfoldable pub numbers : ℕ → ℕ → List ℕ
numbers from zero = []
numbers from (suc count) = from ∷ numbers (suc from) count

-- the slot at a place; none at the root
abbrev pub slot_of : ℕ → Option ℕ
slot_of zero = None
slot_of (suc slot) = Some slot

-- after this place come just these slots, and then the root; and backwards
unfoldable pub Linked : (ℕ → ℕ) → (ℕ → ℕ) → ℕ → List ℕ → Type 0
Linked next prev from [] = (next from ≡ 0) × (prev 0 ≡ from)
Linked next prev from (slot ∷ rest) = (next from ≡ suc slot) × (prev (suc slot) ≡ from) × Linked next prev (suc slot) rest

-- at most so many slots, from this place on
unfoldable pub walk : ℕ → (ℕ → ℕ) → ℕ → List ℕ
walk zero next place = []
walk (suc n) next zero = []
walk (suc n) next (suc slot) = slot ∷ walk n next (next (suc slot))

-- the slots in the order of the links
unfoldable pub listed : List Link → List ℕ
listed links = walk (length links) (slice_index (nexts links)) (slice_index (nexts links) 0)

-- the links spell the list, and a slot that is not in it is its own next
pub record IsChain (links : List Link) (list : List ℕ) : Type 0 where
  pub linked : Linked (slice_index (nexts links)) (slice_index (prevs links)) 0 list
  pub once : EachOnce list
  pub within : (slot : ℕ) → has list slot ≡ true → suc slot < length links
  pub free : (slot : ℕ) → suc slot < length links → has list slot ≡ false → slice_index (nexts links) (suc slot) ≡ suc slot
  pub rooted : 0 < length links
  pub few : length links ≤ 2 ^ 32
