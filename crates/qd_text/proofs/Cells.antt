-- The cells of a record, one by one, and the record of the scheme that they belong to.
use Rattle.std.proofs.Common.{◌≡◌, ℕ, zero, suc, ◌+◌, ◌<◌, ◌≤◌, List, [], ◌∷◌, ◌++◌, length, get_or, drop, refl, sym, ◌∙◌, ap, subst, arith, append_assoc}
use Rattle.std.specs.Prelude.{Result, Ok, Err, Some, None, slice_get, IsTrue, All}
use Rattle.std.proofs.lemmas.List.{drop_more}
use Rattle.std.proofs.lemmas.Option.{slice_get-get_or}
use lib.IntN.{ℤ}
use Rattle.qd_scheme.specs.Faults.{has_scale}
use Rattle.qd_scheme.specs.Schemes.{IsScheme}
use Rattle.qd_scheme.specs.declared.defs.FieldKind.{FieldKind}
use Rattle.qd_scheme.specs.declared.defs.FieldDef.{FieldDef}
use Rattle.qd_scheme.specs.declared.defs.RecordDef.{RecordDef}
use Rattle.qd_grammar.specs.declared.fault.Fault.{Fault}
use Rattle.qd_grammar.specs.Parts.{Part, ◌>>=◌}
use Rattle.qd_grammar.specs.Fields.{cell_at, cells_at}
use Rattle.qd_grammar.specs.Body.{kinds_of, kinds_at}

-- what was read, with cells in front
abbrev pub with_cells : List ℤ → Result (List ℤ × List Part) Fault → Result (List ℤ × List Part) Fault
with_cells front (Ok x) = Ok (front ++ x.0, x.1)
with_cells front (Err e) = Err e

one_more : (front : List ℤ) (cell : ℤ) (read : Result (List ℤ × List Part) Fault) → with_cells (front ++ cell ∷ []) read ≡ with_cells front (read >>= λ cells. Ok (cell ∷ cells.0, cells.1))
one_more front cell (Ok x) = ap (λ (xs : List ℤ). Ok (xs, x.1)) (append_assoc front (cell ∷ []) x.0)
one_more front cell (Err e) = refl

pub cells_step : (front : List ℤ) (cell : ℤ) (kind : FieldKind) (kinds : List FieldKind) (end : ℕ) (parts rest : List Part) → Ok (cell, rest) ≡ cell_at kind end parts → with_cells (front ++ cell ∷ []) (cells_at kinds end rest) ≡ with_cells front (cells_at (kind ∷ kinds) end parts)
cells_step front cell kind kinds end parts rest h = one_more front cell (cells_at kinds end rest) ∙ rw (← h) refl

pub cells_fail : (front : List ℤ) (e : Fault) (kind : FieldKind) (kinds : List FieldKind) (end : ℕ) (parts : List Part) → Err e ≡ cell_at kind end parts → Err e ≡ with_cells front (cells_at (kind ∷ kinds) end parts)
cells_fail front e kind kinds end parts h = rw (← h) refl

pub kinds_left : (fields : List FieldDef) (i : ℕ) (field : FieldDef) → i < length fields → field ≡ get_or fields i field → kinds_of (drop i fields) ≡ field.kind ∷ kinds_of (drop (i + 1) fields)
kinds_left fields i field h e = ap (λ (xs : List FieldDef). kinds_of xs) (drop_more fields i field h) ∙ ap (λ (f : FieldDef). f.kind ∷ kinds_of (drop (i + 1) fields)) (sym e)

-- a field's scale, where all have one
pub scaled_field : (fields : List FieldDef) (i : ℕ) (field : FieldDef) → All (λ (f : FieldDef). IsTrue (has_scale f.kind)) fields → i < length fields → field ≡ get_or fields i field → IsTrue (has_scale field.kind)
scaled_field fields i field h k e = subst (λ (f : FieldDef). IsTrue (has_scale f.kind)) (sym e) (h i field k)

-- a number below the length of the scheme has a record
pub def_there : (defs : List RecordDef) (rec : ℕ) → rec < length defs → slice_get defs rec ≡ None → ⊥
def_there [] rec h e = absurd (omega arith)
def_there (def ∷ defs) zero h e = cc
def_there (def ∷ defs) (suc rec) h e = def_there defs rec (omega arith) e

pub few_fields : (defs : List RecordDef) (rec : ℕ) (def : RecordDef) → IsScheme defs → slice_get defs rec ≡ Some def → length def.fields ≤ 16
few_fields defs rec def s e = (s.records rec def e).few

pub scaled_fields : (defs : List RecordDef) (rec : ℕ) (def : RecordDef) → IsScheme defs → slice_get defs rec ≡ Some def → All (λ (f : FieldDef). IsTrue (has_scale f.kind)) def.fields
scaled_fields defs rec def s e = λ k d h. ((s.records rec def e).fields k (get_or def.fields k d) (slice_get-get_or def.fields k d h)).scaled

pub kinds_there : (defs : List RecordDef) (rec : ℕ) (def : RecordDef) → slice_get defs rec ≡ Some def → kinds_at (slice_get defs rec) ≡ kinds_of def.fields
kinds_there defs rec def e = ap kinds_at e
