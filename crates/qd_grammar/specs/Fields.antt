-- What one part of a line says.
use Rattle.std.specs.Prelude.{ℕ, ◌+◌, ◌-◌, ◌^◌, ◌==◌, ◌||◌, not, List, [], ◌∷◌, Bool, true, false, Option, Some, None, Result, Ok, Err, bit_and, slice_get}
use lib.IntN.{ℤ}
use Rattle.qd_decimal.specs.Reading.{dec_of, int_of, count_of}
use Rattle.qd_decimal.specs.declared.fault.DecFault.{DecFault}
use Rattle.qd_decimal.specs.declared.fault.DecFault.TheVariants.{Empty, BadByte, TooFine, TooLarge}
use Rattle.qd_scheme.specs.Symbols.{symbol_of}
use Rattle.qd_scheme.specs.declared.defs.RecordDef.{RecordDef}
use Rattle.qd_scheme.specs.Finding.{number_of_record}
use Rattle.qd_scheme.specs.declared.defs.FieldKind.{FieldKind}
use Rattle.qd_scheme.specs.declared.defs.FieldKind.TheVariants.{Int, Dec}
use Rattle.qd_grammar.specs.declared.fault.Fault.{Fault}
use Rattle.qd_grammar.specs.declared.fault.Why.{Why}
use Rattle.qd_grammar.specs.declared.fault.Why.TheVariants.{Form, UnknownRecord, Number, BadSymbol, BadFlags}
use Rattle.qd_grammar.specs.Parts.{Reads, a_part, fault, ◌>>=◌}
use Rattle.qd_grammar.specs.Words.{found}

-- a number's fault is told at its byte, and Empty and TooLarge at the part
abbrev pub fault_place : ℕ → DecFault → ℕ
fault_place place Empty = place
fault_place place (BadByte p) = place + p - 1
fault_place place (TooFine p) = place + p - 1
fault_place place TooLarge = place

abbrev pub told_at : {A : Type 0} → ℕ → Result A DecFault → Result A Fault
told_at place (Ok value) = Ok value
told_at place (Err why) = fault (fault_place place why) (Number why)

abbrev pub number_of_kind : FieldKind → List ℕ → Result ℤ DecFault
number_of_kind Int text = int_of text
number_of_kind (Dec scale) text = dec_of scale text

-- a part that says a value, by its place and its bytes
abbrev pub part_says : {A : Type 0} → (ℕ → List ℕ → Result A Fault) → Reads A
part_says says end parts = do
  part ← a_part end parts
  value ← says part.0.place part.0.bytes
  Ok (value, part.1)

-- a field's cell
abbrev pub cell_of : FieldKind → ℕ → List ℕ → Result ℤ Fault
cell_of kind place text = told_at place (number_of_kind kind text)

unfoldable pub cell_at : FieldKind → Reads ℤ
cell_at kind = part_says (cell_of kind)

-- one cell for each field, in order
abbrev pub cells_at : List FieldKind → Reads (List ℤ)
cells_at [] end parts = Ok ([], parts)
cells_at (kind ∷ kinds) end parts = cell_at kind end parts >>= λ cell. cells_at kinds end cell.1 >>= λ cells. Ok (cell.0 ∷ cells.0, cells.1)

-- a count up to a limit
abbrev pub count_told : ℕ → ℕ → List ℕ → Result ℕ Fault
count_told most place text = told_at place (count_of most text)

unfoldable pub count_at : ℕ → Reads ℕ
count_at most = part_says (count_told most)

-- a symbol, whose fault is told at its byte
abbrev pub symbol_fault : ℕ → Result (List ℕ) ℕ → Result (List ℕ) Fault
symbol_fault place (Ok symbol) = Ok symbol
symbol_fault place (Err p) = fault (place + p - 1) BadSymbol

abbrev pub symbol_told : ℕ → List ℕ → Result (List ℕ) Fault
symbol_told place text = symbol_fault place (symbol_of text)

unfoldable pub symbol_at : Reads (List ℕ)
symbol_at = part_says symbol_told

abbrev pub or_fault : {A : Type 0} → ℕ → Why → Option A → Result A Fault
or_fault place why None = fault place why
or_fault place why (Some x) = Ok x

-- a word of a table
abbrev pub word_told : {A : Type 0} → List (List ℕ × A) → ℕ → List ℕ → Result A Fault
word_told table place text = or_fault place Form (found table text)

unfoldable pub word_at : {A : Type 0} → List (List ℕ × A) → Reads A
word_at table = part_says (word_told table)

-- a value that passes a test, else a fault
abbrev pub passing : {A : Type 0} → Bool → A → ℕ → Why → Result A Fault
passing true value place why = Ok value
passing false value place why = fault place why

abbrev pub is_history : Option RecordDef → Bool
is_history None = false
is_history (Some def) = def.hist

-- whether a record is one of the history
unfoldable pub hist_at : List RecordDef → ℕ → Bool
hist_at defs rec = is_history (slice_get defs rec)

-- the number of a record by its name; where history records alone may stand, only the number of such a one
abbrev pub record_told : Bool → List RecordDef → ℕ → List ℕ → Result ℕ Fault
record_told hist defs place text = or_fault place UnknownRecord (number_of_record text defs) >>= λ rec. passing (not hist || hist_at defs rec) rec place Form

unfoldable pub record_at : Bool → List RecordDef → Reads ℕ
record_at hist defs = part_says (record_told hist defs)

-- flags, of which 0x20 and 0x80 are none
abbrev pub flags_told : ℕ → List ℕ → Result ℕ Fault
flags_told place text = told_at place (count_of 255 text) >>= λ n. passing (bit_and n 160 == 0) n place BadFlags

unfoldable pub flags_at : Reads ℕ
flags_at = part_says flags_told

-- a count that is not 0
abbrev pub loss_told : ℕ → List ℕ → Result ℕ Fault
loss_told place text = told_at place (count_of (2 ^ 64 - 1) text) >>= λ n. passing (not (n == 0)) n place Form

unfoldable pub loss_at : Reads ℕ
loss_at = part_says loss_told
