-- What the bytes of a scheme file say.
use Rattle.std.specs.Prelude.{ℕ, ◌+◌, ◌==◌, nat_le, if◌then◌else◌, List, [], ◌∷◌, ◌++◌, length, slice_index, Option, Some, None, Result, Ok, Err}
use Rattle.qd_grammar.specs.declared.fault.Fault.{Fault}
use Rattle.qd_line.specs.Lines.{without_cr}
use Rattle.qd_scheme.specs.declared.defs.RecordDef.{RecordDef}
use Rattle.qd_scheme.specs.declared.faults.SchemeFault.{SchemeFault}
use Rattle.qd_scheme.specs.declared.faults.SchemeFault.TheVariants as faults
use Rattle.qd_scheme.specs.Faults.{scheme_fault}
use Rattle.qd_text.specs.SchemeLines.{SchemeText, no_lines, with_line, scheme_line}
use Rattle.qd_scheme_file.specs.declared.no_scheme.NoScheme.{NoScheme}
use Rattle.qd_scheme_file.specs.declared.no_scheme.NoScheme.TheVariants.{Bad, Wrong, LineTooLong, NoMemory}

infixl 10 ◌then◌
abbrev pub ◌then◌ : {A B : Type 0} → Result A NoScheme → (A → Result B NoScheme) → Result B NoScheme
(Ok x) then f = f x
(Err e) then f = Err e

-- the lines read so far with what one more says, or its fault, told with its number
abbrev pub with_said : SchemeText → Result (Option RecordDef) Fault → Result SchemeText NoScheme
with_said text (Ok said) = Ok (with_line said text)
with_said text (Err fault) = Err (Bad (record { line = text.lines + 1; place = fault.place; why = fault.why }))

-- the lines with one more, without the carriage return at its end
abbrev pub with_text : SchemeText → List ℕ → Result SchemeText NoScheme
with_text text line = with_said text (scheme_line (without_cr line))

-- what bytes say behind the lines read so far and the first bytes of a line: each line that ends is read in order; a line of more than 4096 bytes is refused. The bytes of the line that does not end are left
unfoldable pub read_on : SchemeText → List ℕ → List ℕ → Result (SchemeText × List ℕ) NoScheme
read_on text front [] = Ok (text, front)
read_on text front (b ∷ bytes) =
    if b == 10 then with_text text front then (λ next. read_on next [] bytes) else
    if nat_le 4096 (length front) then Err (LineTooLong (text.lines + 1)) else
    read_on text (front ++ b ∷ []) bytes

-- what the first bytes of a file say
abbrev pub begun : List ℕ → Result (SchemeText × List ℕ) NoScheme
begun bytes = read_on no_lines [] bytes

-- the records of the lines, or the first fault of the list, told with the line of its record
abbrev pub judged : SchemeText → Option SchemeFault → Result (List RecordDef) NoScheme
judged text None = Ok text.defs
judged text (Some (faults.Wrong rec why)) = Err (Wrong (slice_index text.places rec) why)
judged text (Some faults.NoMemory) = Err NoMemory

-- what lines and the last bytes behind them say: the records, once these bytes are read
abbrev pub finished : SchemeText → List ℕ → Result (List RecordDef) NoScheme
finished text bytes = read_on text [] bytes then (λ read. judged read.0 (scheme_fault read.0.defs))

-- what a whole file says: its records, where what follows the last line feed is a line too, as if a line feed followed it
unfoldable pub told : List ℕ → Result (List RecordDef) NoScheme
told bytes = finished no_lines (bytes ++ 10 ∷ [])
