-- What a scheme is: at most 64 records with names of their own, each with at most 16 fields with names of their own.
use Rattle.std.specs.Prelude.{ℕ, ◌≡◌, ◌≤◌, false, List, length, IsTrue, take, Some, slice_get}
use Rattle.std.specs.List.{list_any}
use Rattle.qd_scheme.specs.Names.{name_eq, is_name}
use Rattle.qd_scheme.specs.Faults.{has_scale}
use Rattle.qd_scheme.specs.declared.defs.FieldDef.{FieldDef}
use Rattle.qd_scheme.specs.declared.defs.RecordDef.{RecordDef}

-- a field has a name that no field before it has, and a scale of at most 9
pub record IsField (before : List FieldDef) (field : FieldDef) : Type 0 where
  pub named : IsTrue (is_name field.name)
  pub new : list_any (λ f. name_eq f.name field.name) before ≡ false
  pub scaled : IsTrue (has_scale field.kind)

-- a record has a name that no record before it has, and at most 16 such fields
pub record IsRecord (before : List RecordDef) (def : RecordDef) : Type 0 where
  pub named : IsTrue (is_name def.name)
  pub new : list_any (λ d. name_eq d.name def.name) before ≡ false
  pub few : length def.fields ≤ 16
  pub fields : (i : ℕ) (field : FieldDef) → slice_get def.fields i ≡ Some field → IsField (take i def.fields) field

-- there are at most 64 such records
pub record IsScheme (defs : List RecordDef) : Type 0 where
  pub few : length defs ≤ 64
  pub records : (i : ℕ) (def : RecordDef) → slice_get defs i ≡ Some def → IsRecord (take i defs) def
