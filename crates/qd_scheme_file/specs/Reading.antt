-- What the small steps of reading a scheme file do.
use Rattle.std.specs.Prelude.{ℕ, zero, suc, ◌+◌, ◌≡◌, ◌≤◌, ◌<◌, ◌^◌, List, [], ◌++◌, length, Option, Result, Ok, Err}
use Rattle.qd_line.specs.Held.{Held}
use Rattle.qd_outside.specs.Reading.{Took, IsSpent}
use Rattle.qd_text.specs.SchemeLines.{SchemeText}
use Rattle.qd_text.specs.declared.scheme_reader.SchemeEnd.{SchemeEnd}
use Rattle.qd_text.specs.declared.scheme_reader.SchemeEnd.TheVariants as ends
use Rattle.qd_scheme_file.specs.declared.no_scheme.NoScheme.{NoScheme}
use Rattle.qd_scheme_file.specs.declared.no_scheme.NoScheme.TheVariants.{Bad, Wrong, LineTooLong, TooMuch, ReadFault, NoMemory}
use Rattle.qd_scheme_file.specs.Told.{read_on, begun}
use Rattle.qd_scheme_file.specs.Ends.{Ends, Cause}

abbrev pub no_scheme : SchemeEnd → NoScheme
no_scheme (ends.Bad bad) = Bad bad
no_scheme (ends.Wrong line why) = Wrong line why
no_scheme ends.NoMemory = NoMemory

-- a function of the code refuses as reading does; want of memory says nothing of what is read
abbrev pub Refuses : {A : Type 0} → NoScheme → Result A NoScheme → Type 0
Refuses NoMemory said = Unit {0}
Refuses (Bad bad) said = said ≡ Err (Bad bad)
Refuses (Wrong line why) said = said ≡ Err (Wrong line why)
Refuses (LineTooLong line) said = said ≡ Err (LineTooLong line)
Refuses TooMuch said = ⊥
Refuses ReadFault said = ⊥

-- a function of the code gives what reading says
abbrev pub Gives : {A B : Type 0} → B → Result A NoScheme → Result B NoScheme → Type 0
Gives new (Ok u) said = said ≡ Ok new
Gives new (Err e) said = Refuses e said

-- a function of the code answers what reading says
abbrev pub Answers : {A : Type 0} → Result A NoScheme → Result A NoScheme → Type 0
Answers (Ok x) said = said ≡ Ok x
Answers (Err e) said = Refuses e said

-- the lines read and the bytes held go on with no whole line
abbrev pub IsOpen : SchemeText → List ℕ → Type 0
IsOpen text left = read_on text [] left ≡ Ok (text, left)

-- what is kept stands for the bytes that were taken
pub record StandsFor (text : SchemeText) (held : Held) (taken : List ℕ) : Type 0 where
  pub said : begun taken ≡ read_on text [] held.left
  pub same : held.line ≡ text.lines
  pub few : text.lines + length held.left ≤ length taken

-- the file was read to its end and all its whole lines were, or the reading ended
abbrev pub ReadsAll : Result (Unit {0}) NoScheme → SchemeText → Held → Option (List ℕ) → Option (List ℕ) → ℕ → ℕ → Type 0
ReadsAll (Ok u) text held was left before after =
    (taken : List ℕ) × StandsFor text held taken × IsOpen text held.left × Took was left taken × IsSpent left × (length taken < 2 ^ 40) × (after ≡ before)
ReadsAll (Err e) text held was left before after = Ends (Err e) was left before after

-- so many bytes were read, none at the end of the file
abbrev pub ReadsSome : ℕ → Held → Held → ℕ → Option (List ℕ) → Option (List ℕ) → ℕ → ℕ → Type 0
ReadsSome zero old new most was left before after = (new ≡ old) × Took was left [] × IsSpent left × (after ≡ before)
ReadsSome (suc n) old new most was left before after =
    (piece : List ℕ) × (new ≡ record { text = []; left = old.left ++ piece; line = old.line }) × Took was left piece × (length piece ≡ suc n) × (suc n ≤ most) × (after ≡ before)

-- a piece was read, or the end of the file; memory is wanted only for bytes that were read
abbrev pub ReadsPiece : Result ℕ NoScheme → Held → Held → ℕ → Option (List ℕ) → Option (List ℕ) → ℕ → ℕ → Type 0
ReadsPiece (Ok n) old new most was left before after = ReadsSome n old new most was left before after
ReadsPiece (Err ReadFault) old new most was left before after = Took was left [] × Cause (Err ReadFault) [] left before after
ReadsPiece (Err NoMemory) old new most was left before after = ((piece : List ℕ) × Took was left piece × (1 ≤ length piece) × (length piece ≤ most)) × (after ≡ before)
ReadsPiece (Err (Bad bad)) old new most was left before after = ⊥
ReadsPiece (Err (Wrong line why)) old new most was left before after = ⊥
ReadsPiece (Err (LineTooLong line)) old new most was left before after = ⊥
ReadsPiece (Err TooMuch) old new most was left before after = ⊥
