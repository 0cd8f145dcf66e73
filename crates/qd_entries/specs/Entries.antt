-- Lists of entries in falling order of index, and what stands at an index.
use Rattle.std.specs.Prelude.{ℕ, ◌<◌, ◌==◌, nat_lt, nat_le, List, [], ◌∷◌, Option, Some, None, if◌then◌else◌}
use Rattle.qd_entries.specs.declared.Entry.{Entry}
use Rattle.qd_scheme.specs.declared.cells.Cells.{Cells}

-- each entry is below the index
abbrev pub AllBelow : ℕ → List Entry → Type 0
AllBelow i [] = Unit {0}
AllBelow i (x ∷ xs) = (x.index < i) × AllBelow i xs

-- each entry is above all later ones
abbrev pub Falls : List Entry → Type 0
Falls [] = Unit {0}
Falls (x ∷ xs) = AllBelow x.index xs × Falls xs

-- the cells at an index, None where there are none
abbrev pub cells_at : List Entry → ℕ → Option Cells
cells_at [] i = None
cells_at (x ∷ xs) i = if x.index == i then Some x.cells else cells_at xs i

-- the entries with this one in its place
abbrev pub put_entry : Entry → List Entry → List Entry
put_entry e [] = e ∷ []
put_entry e (x ∷ xs) = if e.index == x.index then e ∷ xs else if nat_lt x.index e.index then e ∷ x ∷ xs else x ∷ put_entry e xs

-- the entries without the one at an index
abbrev pub without_index : ℕ → List Entry → List Entry
without_index i [] = []
without_index i (x ∷ xs) = if x.index == i then xs else x ∷ without_index i xs

-- the first entry at or below an index: the one with the greatest such index
abbrev pub entry_at_or_below : ℕ → List Entry → Option Entry
entry_at_or_below i [] = None
entry_at_or_below i (x ∷ xs) = if nat_le x.index i then Some x else entry_at_or_below i xs
