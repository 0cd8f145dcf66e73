-- What is wrong with a list of records that is no scheme: the first record that breaks a rule, and the first rule that it breaks.
use Rattle.std.specs.Prelude.{ℕ, ◌≡◌, ◌+◌, ◌++◌, Bool, true, not, nat_le, nat_lt, if◌then◌else◌, List, [], ◌∷◌, length, Option, Some, None, option_map}
use Rattle.std.specs.Option.{option_or}
use Rattle.std.specs.List.{list_any}
use Rattle.qd_scheme.specs.Names.{name_eq, is_name}
use Rattle.qd_scheme.specs.declared.defs.FieldKind.{FieldKind}
use Rattle.qd_scheme.specs.declared.defs.FieldKind.TheVariants.{Int, Dec}
use Rattle.qd_scheme.specs.declared.defs.FieldDef.{FieldDef}
use Rattle.qd_scheme.specs.declared.defs.RecordDef.{RecordDef}
use Rattle.qd_scheme.specs.declared.faults.SchemeWhy.{SchemeWhy}
use Rattle.qd_scheme.specs.declared.faults.SchemeWhy.TheVariants.{TooManyRecords, BadName, DuplicateName, TooManyFields, BadScale}
use Rattle.qd_scheme.specs.declared.faults.SchemeFault.{SchemeFault}
use Rattle.qd_scheme.specs.declared.faults.SchemeFault.TheVariants.{Wrong, NoMemory}

-- a scale is at most 9
abbrev pub has_scale : FieldKind → Bool
has_scale Int = true
has_scale (Dec scale) = nat_le scale 9

-- the first item of a list that is wrong, each judged with those before it, and its place counted from n
abbrev pub first_wrong : {X W : Type 0} → (List X → X → Option W) → ℕ → List X → List X → Option (ℕ × W)
first_wrong judge n before [] = None
first_wrong judge n before (x ∷ xs) = option_or (option_map (λ why. (n, why)) (judge before x)) (first_wrong judge (n + 1) (before ++ x ∷ []) xs)

-- what a name breaks, where it is told whether one before it is the same
abbrev pub name_fault : List ℕ → Bool → Option SchemeWhy
name_fault name taken = if not (is_name name) then Some BadName else if taken then Some DuplicateName else None

-- the first rule that a field breaks
abbrev pub field_fault : List FieldDef → FieldDef → Option SchemeWhy
field_fault before field = option_or (name_fault field.name (list_any (λ f. name_eq f.name field.name) before)) (if has_scale field.kind then None else Some BadScale)

-- the first rule that a field of a list breaks
abbrev pub fields_fault : List FieldDef → Option SchemeWhy
fields_fault fields = option_map (λ wrong. wrong.1) (first_wrong field_fault 0 [] fields)

-- the first rule that a record breaks
abbrev pub record_fault : List RecordDef → RecordDef → Option SchemeWhy
record_fault before def = option_or (name_fault def.name (list_any (λ d. name_eq d.name def.name) before)) (if nat_lt 16 (length def.fields) then Some TooManyFields else fields_fault def.fields)

-- the first record of a list that is wrong, by its place from 0, and the first rule that it breaks; 64 for too many records
unfoldable pub scheme_fault : List RecordDef → Option SchemeFault
scheme_fault defs = if nat_lt 64 (length defs) then Some (Wrong 64 TooManyRecords) else option_map (λ wrong. Wrong wrong.0 wrong.1) (first_wrong record_fault 0 [] defs)

-- what a refusal tells: the fault of the records, and want of memory only where they have none
abbrev pub IsFaultOf : List RecordDef → SchemeFault → Type 0
IsFaultOf defs fault = option_or (scheme_fault defs) (Some NoMemory) ≡ Some fault
