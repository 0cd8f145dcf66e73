-- How a record is found by its name.
use Rattle.std.specs.Prelude.{ℕ, ◌+◌, List, [], ◌∷◌, Option, Some, None, option_map, if◌then◌else◌}
use Rattle.std.specs.Hash.FoldHasher.{initial, write, finish}
use Rattle.qd_scheme.specs.Names.{name_eq}
use Rattle.qd_scheme.specs.declared.defs.RecordDef.{RecordDef}

-- the place of the first record that has the name
abbrev pub number_of_record : List ℕ → List RecordDef → Option ℕ
number_of_record name [] = None
number_of_record name (def ∷ defs) = if name_eq def.name name then Some 0 else option_map (λ n. n + 1) (number_of_record name defs)

-- a number that a name is known by: names that have different numbers differ
unfoldable pub name_code : List ℕ → ℕ
name_code name = finish (write initial name)
