-- The parts of a line as the code sees them: by the index at which the parts that are left begin.
use Rattle.std.specs.Prelude.{ℕ, ◌+◌, if◌then◌else◌, nat_le, drop, slice_range, List, [], length, Result, Ok, Err}
use Rattle.qd_grammar.specs.declared.fault.Fault.{Fault}
use Rattle.qd_grammar.specs.Parts.{Part, cut}

-- the parts of a line that begin at an index or later
unfoldable pub left : List ℕ → ℕ → List Part
left line at = if nat_le at (length line) then cut (at + 1) (drop at line) else []

-- What a function of the code returned, as reading tells it: the code has the index at which the parts that are left begin.
abbrev pub seen : {X A : Type 0} → List ℕ → (X → A) → Result (X × ℕ) Fault → Result (A × List Part) Fault
seen line view (Ok x) = Ok (view x.0, left line x.1)
seen line view (Err e) = Err e

-- the same of a part, of which the code has the end
abbrev pub part_seen : List ℕ → ℕ → Result ℕ Fault → Result (Part × List Part) Fault
part_seen line at (Ok end) = Ok (record { place = at + 1; bytes = slice_range line at end }, left line (end + 1))
part_seen line at (Err e) = Err e

-- the first part, by its end
abbrev pub first_of : List ℕ → ℕ → Part
first_of line end = record { place = 1; bytes = slice_range line 0 end }

-- the same of a function that puts its value aside
abbrev pub seen_with : {A : Type 0} → List ℕ → A → Result ℕ Fault → Result (A × List Part) Fault
seen_with line value (Ok next) = Ok (value, left line next)
seen_with line value (Err e) = Err e

-- what a function returned and put aside
abbrev pub put_aside : {A : Type 0} → Result (Unit {0}) Fault → A → Result A Fault
put_aside (Ok done) value = Ok value
put_aside (Err e) value = Err e
