-- A list of records in which nothing is wrong is a scheme.
use Rattle.std.proofs.Common.{◌≡◌, ℕ, zero, suc, ◌+◌, ◌≤◌, Bool, true, false, nat_lt, if◌then◌else◌, List, [], ◌∷◌, ◌++◌, length, take, Option, Some, None, refl, append_assoc, append-nil, ltb-false, subst}
use Rattle.std.specs.Prelude.{option_map, slice_get, IsTrue}
use Rattle.std.specs.Option.{option_or}
use Rattle.std.specs.List.{list_any}
use Rattle.qd_scheme.specs.Names.{name_eq, is_name}
use Rattle.qd_scheme.specs.declared.defs.FieldDef.{FieldDef}
use Rattle.qd_scheme.specs.declared.defs.RecordDef.{RecordDef}
use Rattle.qd_scheme.specs.declared.faults.SchemeWhy.TheVariants.{TooManyRecords, TooManyFields, BadScale}
use Rattle.qd_scheme.specs.declared.faults.SchemeFault.TheVariants.{Wrong}
use Rattle.qd_scheme.specs.Faults.{has_scale, first_wrong, name_fault, field_fault, fields_fault, record_fault, scheme_fault}
use Rattle.qd_scheme.specs.Schemes.{IsField, IsRecord, IsScheme}

or-left : {X : Type 0} (a b : Option X) → option_or a b ≡ None → a ≡ None
or-left None b h = refl
or-left (Some x) b h = cc

or-right : {X : Type 0} (a b : Option X) → option_or a b ≡ None → b ≡ None
or-right None b h = h
or-right (Some x) b h = cc

map-none : {X Y : Type 0} (f : X → Y) (a : Option X) → option_map f a ≡ None → a ≡ None
map-none f None h = refl
map-none f (Some x) h = cc

some-same : {X : Type 0} (x y : X) → Some x ≡ Some y → x ≡ y
some-same x y h = cc

-- where no item is wrong, the item at a place is right
pub none_wrong : {X W : Type 0} (judge : List X → X → Option W) (n : ℕ) (before xs : List X) → first_wrong judge n before xs ≡ None → (i : ℕ) (x : X) → slice_get xs i ≡ Some x → judge (before ++ take i xs) x ≡ None
none_wrong judge n before [] h i x e = cc
none_wrong judge n before (y ∷ ys) h zero x e =
    let a : judge before y ≡ None = map-none _ _ (or-left _ _ h) in
    rw append-nil (subst (λ z. judge before z ≡ None) (some-same y x e) a)
none_wrong judge n before (y ∷ ys) h (suc i) x e =
    rw (← append_assoc before (y ∷ []) (take i ys)) (none_wrong judge (n + 1) (before ++ y ∷ []) ys (or-right _ _ h) i x e)

unless : {X : Type 0} (b : Bool) (x : X) (y : Option X) → (if b then Some x else y) ≡ None → (b ≡ false) × (y ≡ None)
unless true x y h = cc
unless false x y h = (refl, h)

unless_not : {X : Type 0} (b : Bool) (x : X) → (if b then None else Some x) ≡ None → b ≡ true
unless_not true x h = refl
unless_not false x h = cc

at_most : (m n : ℕ) → nat_lt m n ≡ false → n ≤ m
at_most = ltb-false

name_right : (name : List ℕ) (taken : Bool) → name_fault name taken ≡ None → IsTrue (is_name name) × (taken ≡ false)
name_right name taken =
    let go : (a b : Bool) → is_name name ≡ a → taken ≡ b → name_fault name taken ≡ None → IsTrue (is_name name) × (taken ≡ false) =
    elim [
      | true ↦ elim [ true ↦ λ e f h. cc | false ↦ λ e f h. (e, f) ]
      | false ↦ λ b e f h. cc
    ] in
    go (is_name name) taken refl refl

field_right : (before : List FieldDef) (field : FieldDef) → field_fault before field ≡ None → IsField before field
field_right before field h =
    let n = name_right field.name (list_any (λ f. name_eq f.name field.name) before) (or-left _ _ h) in
    record { named = n.0; new = n.1; scaled = unless_not (has_scale field.kind) BadScale (or-right _ _ h) }

record_right : (before : List RecordDef) (def : RecordDef) → record_fault before def ≡ None → IsRecord before def
record_right before def h =
    let n = name_right def.name (list_any (λ d. name_eq d.name def.name) before) (or-left _ _ h) in
    let u = unless (nat_lt 16 (length def.fields)) TooManyFields (fields_fault def.fields) (or-right _ _ h) in
    record {
      named = n.0;
      new = n.1;
      few = at_most 16 (length def.fields) u.0;
      fields = λ i field e. field_right (take i def.fields) field (none_wrong field_fault 0 [] def.fields (map-none _ _ u.1) i field e);
    }

-- a list of records without a fault is a scheme
pub scheme_right : (defs : List RecordDef) → scheme_fault defs ≡ None → IsScheme defs
unfolding scheme_fault
scheme_right defs h =
    let u = unless (nat_lt 64 (length defs)) (Wrong 64 TooManyRecords) _ h in
    record {
      few = at_most 64 (length defs) u.0;
      records = λ i def e. record_right (take i defs) def (none_wrong record_fault 0 [] defs (map-none _ _ u.1) i def e);
    }
