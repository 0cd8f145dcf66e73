-- The fields of a record of a scheme file, one by one.
use Rattle.std.proofs.Common.{◌≡◌, ℕ, zero, suc, ◌+◌, ◌≤◌, ◌<◌, Bool, true, false, cond, List, [], ◌∷◌, ◌++◌, length, take, drop, slice_range, refl, sym, ◌∙◌, ap, arith, append_assoc, inl, inr}
use Rattle.std.specs.Prelude.{◌⊎◌, nat_lt, slice_get, option_map, Option, Some, None, Result, Ok, Err}
use Rattle.qd_scheme.specs.declared.defs.FieldDef.{FieldDef}
use Rattle.qd_scheme.specs.declared.defs.RecordDef.{RecordDef}
use Rattle.qd_grammar.specs.declared.fault.Fault.{Fault}
use Rattle.qd_grammar.specs.declared.fault.Why.TheVariants.{Form}
use Rattle.qd_grammar.specs.Lines.{is_skipped}
use Rattle.qd_grammar.specs.Parts.{Part, parts_of, ◌>>=◌}
use Rattle.qd_text.specs.Cursor.{left, first_of}
use Rattle.qd_text.specs.SchemeLines.{field_told, fields_of, is_record_line, is_starred, record_of, scheme_line}
use Rattle.std.specs.Option.{option_or}
use Rattle.std.proofs.lemmas.Bool.Decides.{nat_tests}
use Rattle.qd_scheme.specs.Faults.{IsFaultOf, first_wrong, record_fault, scheme_fault}
use Rattle.qd_scheme.specs.declared.faults.SchemeWhy.{SchemeWhy}
use Rattle.qd_scheme.specs.declared.faults.SchemeWhy.TheVariants.{TooManyRecords}
use Rattle.qd_scheme.specs.declared.faults.SchemeFault.{SchemeFault}
use Rattle.qd_scheme.specs.declared.faults.SchemeFault.TheVariants.{Wrong, NoMemory}
use Rattle.qd_text.proofs.Cuts.{no_part_left}
use Rattle.qd_text.proofs.Descriptions.{name_bytes}

append_none : (xs : List FieldDef) → xs ++ [] ≡ xs
append_none [] = refl
append_none (x ∷ xs) = ap (λ (ys : List FieldDef). x ∷ ys) (append_none xs)

-- what was read, with fields in front
abbrev pub with_fields : List FieldDef → Result (List FieldDef) Fault → Result (List FieldDef) Fault
with_fields front (Ok fields) = Ok (front ++ fields)
with_fields front (Err f) = Err f

one_more : (front : List FieldDef) (field : FieldDef) (read : Result (List FieldDef) Fault) → with_fields (front ++ field ∷ []) read ≡ with_fields front (read >>= λ fields. Ok (field ∷ fields))
one_more front field (Ok fields) = ap (λ (xs : List FieldDef). Ok xs) (append_assoc front (field ∷ []) fields)
one_more front field (Err f) = refl

pub fields_step : (front : List FieldDef) (field : FieldDef) (place : ℕ) (bytes : List ℕ) (parts : List Part) → field_told place bytes ≡ Ok field → with_fields (front ++ field ∷ []) (fields_of parts) ≡ with_fields front (fields_of (record { place = place; bytes = bytes } ∷ parts))
fields_step front field place bytes parts e = one_more front field (fields_of parts) ∙ rw e refl

pub fields_fail : (front : List FieldDef) (f : Fault) (place : ℕ) (bytes : List ℕ) (parts : List Part) → field_told place bytes ≡ Err f → with_fields front (fields_of (record { place = place; bytes = bytes } ∷ parts)) ≡ Err f
fields_fail front f place bytes parts e = rw e refl

pub record_made : (line : List ℕ) (end : ℕ) (hist : Bool) (fields : List FieldDef) (at : ℕ) → hist ≡ is_starred (left line (end + 1)) → left line at ≡ cond hist (drop 1 (left line (end + 1))) (left line (end + 1)) → fields_of (left line at) ≡ Ok fields → record_of (first_of line end ∷ left line (end + 1)) ≡ Ok (Some (record { name = slice_range line 1 end; hist = hist; fields = fields }))
record_made line end hist fields at h p e =
    let q : fields_of (cond (is_starred (left line (end + 1))) (drop 1 (left line (end + 1))) (left line (end + 1))) ≡ Ok fields = ap fields_of (ap (λ (t : Bool). cond t (drop 1 (left line (end + 1))) (left line (end + 1))) (sym h) ∙ sym p) ∙ e in
    ap (λ (r : Result (List FieldDef) Fault). r >>= λ (fs : List FieldDef). Ok (Some (record { name = drop 1 (slice_range line 0 end); hist = is_starred (left line (end + 1)); fields = fs }))) q
    ∙ ap (λ (n : List ℕ). Ok (Some (record { name = n; hist = is_starred (left line (end + 1)); fields = fields }))) (name_bytes line end)
    ∙ ap (λ (t : Bool). Ok (Some (record { name = slice_range line 1 end; hist = t; fields = fields }))) (sym h)

pub record_fails : (line : List ℕ) (end : ℕ) (hist : Bool) (f : Fault) (at : ℕ) → hist ≡ is_starred (left line (end + 1)) → left line at ≡ cond hist (drop 1 (left line (end + 1))) (left line (end + 1)) → fields_of (left line at) ≡ Err f → record_of (first_of line end ∷ left line (end + 1)) ≡ Err f
record_fails line end hist f at h p e =
    let q : fields_of (cond (is_starred (left line (end + 1))) (drop 1 (left line (end + 1))) (left line (end + 1))) ≡ Err f = ap fields_of (ap (λ (t : Bool). cond t (drop 1 (left line (end + 1))) (left line (end + 1))) (sym h) ∙ sym p) ∙ e in
    ap (λ (r : Result (List FieldDef) Fault). r >>= λ (fs : List FieldDef). Ok (Some (record { name = drop 1 (slice_range line 0 end); hist = is_starred (left line (end + 1)); fields = fs }))) q

-- the record of a line, by its first part and those behind it
pub record_read : (line : List ℕ) (end : ℕ) → parts_of line ≡ first_of line end ∷ left line (end + 1) → record_of (parts_of line) ≡ record_of (first_of line end ∷ left line (end + 1))
record_read line end e = ap record_of e

-- a line that says a record is a description
said_by : (skipped described : Bool) (read : Result (Option RecordDef) Fault) (f : Fault) (def : RecordDef) → cond skipped (Ok None) (cond described read (Err f)) ≡ Ok (Some def) → described ≡ true
said_by true described read f def e = cc
said_by false true read f def e = refl
said_by false false read f def e = cc

pub record_said : (line : List ℕ) (def : RecordDef) → scheme_line line ≡ Ok (Some def) → is_record_line line ≡ true
unfolding scheme_line
record_said line def e = said_by (is_skipped line) (is_record_line line) (record_of (parts_of line)) (record { place = 1; why = Form }) def e

-- places kept for more records than there are
pub kept_places : (n : ℕ) (places : List ℕ) (line : ℕ) → n ≤ length places → take n (take n places ++ line ∷ []) ≡ take n places
kept_places zero places line h = refl
kept_places (suc n) [] line h = absurd (omega arith)
kept_places (suc n) (p ∷ places) line h = ap (λ (xs : List ℕ). p ∷ xs) (kept_places n places line (omega arith))

-- past the last part
pub fields_done : (line : List ℕ) (at : ℕ) (front : List FieldDef) → length line < at → with_fields front (fields_of (left line at)) ≡ Ok front
fields_done line at front h = rw (no_part_left line at h) (ap (λ (xs : List FieldDef). Ok xs) (append_none front))

-- the record that a fault names is one of the list

chosen : (test : Bool) (x y f : Option SchemeFault) → cond test x y ≡ f → ((test ≡ true) × (x ≡ f)) ⊎ ((test ≡ false) × (y ≡ f))
chosen true x y f e = inl (refl, e)
chosen false x y f e = inr (refl, e)

first_or : {W : Type 0} (n m : ℕ) (o : Option W) (later : Option (ℕ × W)) (w : ℕ × W) → n < m → (later ≡ Some w → w.0 < m) → option_or (option_map (λ why. (n, why)) o) later ≡ Some w → w.0 < m
first_or n m None later w h k e = k e
first_or n m (Some why) later w h k e = let p : (n, why) ≡ w = cc in let q : n ≡ w.0 = ap (λ v. v.0) p in omega arith

wrong_within : {X W : Type 0} (judge : List X → X → Option W) (n : ℕ) (before xs : List X) (w : ℕ × W) → first_wrong judge n before xs ≡ Some w → w.0 < n + length xs
wrong_within judge n before [] w e = cc
wrong_within judge n before (x ∷ xs) w e =
    first_or n (n + length (x ∷ xs)) (judge before x) (first_wrong judge (n + 1) (before ++ x ∷ []) xs) w (omega arith) (λ p. let l = wrong_within judge (n + 1) (before ++ x ∷ []) xs w p in omega arith) e

mapped_wrong : (o : Option (ℕ × SchemeWhy)) (rec : ℕ) (why : SchemeWhy) → option_map (λ (w : ℕ × SchemeWhy). Wrong w.0 w.1) o ≡ Some (Wrong rec why) → (w : ℕ × SchemeWhy) × ((o ≡ Some w) × (w.0 ≡ rec))
mapped_wrong None rec why e = cc
mapped_wrong (Some w) rec why e = (w, (refl, cc))

pub fault_within : (defs : List RecordDef) (rec : ℕ) (why : SchemeWhy) → scheme_fault defs ≡ Some (Wrong rec why) → rec < length defs
unfolding scheme_fault
fault_within defs rec why e =
    let wrong : Option (ℕ × SchemeWhy) = first_wrong record_fault 0 [] defs in
    elim (chosen (nat_lt 64 (length defs)) (Some (Wrong 64 TooManyRecords)) (option_map (λ (w : ℕ × SchemeWhy). Wrong w.0 w.1) wrong) (Some (Wrong rec why)) e) [
      | inl a ↦ let t = a.0 in let s = a.1 in let n : 64 ≡ rec = cc in let l : 64 < length defs = grind (arith, nat_tests) in omega arith
      | inr b ↦ let m = mapped_wrong wrong rec why b.1 in let l = wrong_within record_fault 0 [] defs m.0 m.1.0 in let k = m.1.1 in omega arith
    ]

-- where memory was wanted, the records have no fault
forgone : (many : Bool) (wrong : Option (ℕ × SchemeWhy)) → option_or (cond many (Some (Wrong 64 TooManyRecords)) (option_map (λ (w : ℕ × SchemeWhy). Wrong w.0 w.1) wrong)) (Some NoMemory) ≡ Some NoMemory
    → cond many (Some (Wrong 64 TooManyRecords)) (option_map (λ (w : ℕ × SchemeWhy). Wrong w.0 w.1) wrong) ≡ None
forgone true wrong e = cc
forgone false (Some w) e = cc
forgone false None e = refl

pub right_forgone : (defs : List RecordDef) → IsFaultOf defs NoMemory → scheme_fault defs ≡ None
unfolding scheme_fault
right_forgone defs e = forgone (nat_lt 64 (length defs)) (first_wrong record_fault 0 [] defs) e

pub get_taken : (places : List ℕ) (n rec : ℕ) → rec < n → slice_get (take n places) rec ≡ slice_get places rec
get_taken [] zero rec h = refl
get_taken [] (suc n) rec h = refl
get_taken (p ∷ places) zero rec h = absurd (omega arith)
get_taken (p ∷ places) (suc n) zero h = refl
get_taken (p ∷ places) (suc n) (suc rec) h = get_taken places n rec (omega arith)
