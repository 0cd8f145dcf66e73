-- What the lines of a scheme file say: a record each, with the number of its line.
use Rattle.std.specs.Prelude.{ℕ, ◌≡◌, ◌+◌, ◌-◌, ◌==◌, ◌&&◌, not, nat_le, nat_eq, cond, if◌then◌else◌, List, [], ◌∷◌, ◌++◌, length, take, drop, codes, slice_get, slice_index, Bool, true, false, Option, Some, None, option_map, Result, Ok, Err}
use Rattle.std.specs.Cmp.Lexicographic.{pointwise}
use Rattle.qd_scheme.specs.declared.defs.FieldKind.{FieldKind}
use Rattle.qd_scheme.specs.declared.defs.FieldKind.TheVariants.{Int, Dec}
use Rattle.qd_scheme.specs.declared.defs.FieldDef.{FieldDef}
use Rattle.qd_scheme.specs.declared.defs.RecordDef.{RecordDef}
use Rattle.qd_scheme.specs.Faults.{scheme_fault}
use Rattle.qd_scheme.specs.declared.faults.SchemeFault.TheVariants as faults
use Rattle.qd_grammar.specs.declared.fault.Fault.{Fault}
use Rattle.qd_grammar.specs.declared.fault.Why.TheVariants.{Form}
use Rattle.qd_grammar.specs.Parts.{Part, parts_of, fault, ◌>>=◌}
use Rattle.qd_grammar.specs.Fields.{or_fault}
use Rattle.qd_grammar.specs.Lines.{is_skipped, is_control, is_description}
use Rattle.qd_text.specs.declared.scheme_line.Stop.{Stop}
use Rattle.qd_text.specs.declared.scheme_line.Stop.TheVariants as stops
use Rattle.qd_text.specs.declared.scheme_reader.SchemeEnd.{SchemeEnd}
use Rattle.qd_text.specs.declared.scheme_reader.SchemeEnd.TheVariants.{Bad, Wrong, NoMemory}

abbrev pub is_digit : ℕ → Bool
is_digit b = nat_le 48 b && nat_le b 57

-- where a field's name ends and its kind, where the text ends with `:i`, or with `:d` and a digit
abbrev pub name_and_kind : List ℕ → Option (ℕ × FieldKind)
name_and_kind text =
    let n = length text in
    if (nat_le 2 n && (slice_index text (n - 2) == 58)) && (slice_index text (n - 1) == 105) then Some (n - 2, Int) else
    if ((nat_le 3 n && (slice_index text (n - 3) == 58)) && (slice_index text (n - 2) == 100)) && is_digit (slice_index text (n - 1)) then Some (n - 3, Dec (slice_index text (n - 1) - 48)) else
    None

-- the field that a part describes: a name, a `:` and a kind
abbrev pub field_told : ℕ → List ℕ → Result FieldDef Fault
field_told place text = or_fault place Form (option_map (λ f. record { name = take f.0 text; kind = f.1 }) (name_and_kind text))

-- a field for each part
abbrev pub fields_of : List Part → Result (List FieldDef) Fault
fields_of [] = Ok []
fields_of (part ∷ parts) = field_told part.place part.bytes >>= λ field. fields_of parts >>= λ fields. Ok (field ∷ fields)

-- whether a `*` stands before the fields, which makes a history record
abbrev pub is_starred : List Part → Bool
is_starred [] = false
is_starred (part ∷ parts) = pointwise nat_eq part.bytes (codes "*")

-- the record that the parts of a line describe
abbrev pub record_of : List Part → Result (Option RecordDef) Fault
record_of [] = fault 1 Form
record_of (first ∷ parts) = fields_of (cond (is_starred parts) (drop 1 parts) parts) >>= λ fields. Ok (Some (record { name = drop 1 first.bytes; hist = is_starred parts; fields = fields }))

-- a line that begins as the description of a record does
abbrev pub is_record_line : List ℕ → Bool
is_record_line line = is_description line && not (is_control line)

-- what a line says: nothing where it is skipped, a record, or a fault
unfoldable pub scheme_line : List ℕ → Result (Option RecordDef) Fault
scheme_line line =
    if is_skipped line then Ok None else
    if is_record_line line then record_of (parts_of line) else
    fault 1 Form

-- the lines read so far: how many, the records in order, and the number of the line of each
pub record SchemeText : Type 0 where
  pub lines : ℕ
  pub defs : List RecordDef
  pub places : List ℕ

abbrev pub no_lines : SchemeText
no_lines = record { lines = 0; defs = []; places = [] }

-- one line more
abbrev pub with_line : Option RecordDef → SchemeText → SchemeText
with_line None text = record text { lines = text.lines + 1 }
with_line (Some def) text = record { lines = text.lines + 1; defs = text.defs ++ def ∷ []; places = text.places ++ (text.lines + 1) ∷ [] }

-- what a function of the code returned, as reading tells it; want of memory says nothing of what is read
abbrev pub Stops : {A : Type 0} → Stop → Result A Fault → Type 0
Stops (stops.Bad f) read = read ≡ Err f
Stops stops.NoMemory read = Unit {0}

abbrev pub Gives : {X A : Type 0} → (X → A) → Result X Stop → Result A Fault → Type 0
Gives view (Ok x) read = read ≡ Ok (view x)
Gives view (Err e) read = Stops e read

-- a line's fault, told with its number
abbrev pub told : ℕ → Stop → SchemeEnd
told line (stops.Bad f) = Bad (record { line = line; place = f.place; why = f.why })
told line stops.NoMemory = NoMemory

-- memory is wanted only where this holds
abbrev pub WantsIf : {X : Type 0} → Bool → Result X Stop → Type 0
WantsIf test (Ok x) = Unit {0}
WantsIf test (Err (stops.Bad f)) = Unit {0}
WantsIf test (Err stops.NoMemory) = test ≡ true

-- what a reader answered to a line, and what it stands for afterwards; only a record wants memory
abbrev pub IsLineRead : SchemeText → List ℕ → Result (Unit {0}) SchemeEnd → SchemeText → Type 0
IsLineRead old line (Ok u) new = (read : Option RecordDef) × ((scheme_line line ≡ Ok read) × (new ≡ with_line read old))
IsLineRead old line (Err (Bad bad)) new = (scheme_line line ≡ Err (record { place = bad.place; why = bad.why })) × (bad.line ≡ old.lines + 1)
IsLineRead old line (Err (Wrong line' why)) new = ⊥
IsLineRead old line (Err NoMemory) new = (new ≡ old) × (is_record_line line ≡ true)

-- why the records read are no scheme: the first fault of the list, told with the line of its record; memory is wanted only
-- where there is none
abbrev pub IsRefusal : SchemeText → SchemeEnd → Type 0
IsRefusal text (Bad bad) = ⊥
IsRefusal text (Wrong line why) = (rec : ℕ) × ((scheme_fault text.defs ≡ Some (faults.Wrong rec why)) × (slice_get text.places rec ≡ Some line))
IsRefusal text NoMemory = scheme_fault text.defs ≡ None
