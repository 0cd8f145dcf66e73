-- The exit statuses of the program.
use Rattle.std.specs.Prelude.{ℕ, ◌≡◌, ◌⊎◌, Bool, true, List, Option}
use Rattle.std.specs.declared.io.ErrorKind.{ErrorKind}
use Rattle.std.specs.declared.io.ErrorKind.TheVariants.{OutOfMemory}
use Rattle.qd_items.specs.declared.ends.RunEnd.{RunEnd}
use Rattle.qd_items.specs.declared.ends.RunEnd.TheVariants as runs
use Rattle.qd_outside.specs.Writing.{IsWritten, IsCutShort}
use Rattle.qd_scheme_file.specs.declared.no_scheme.NoScheme.{NoScheme}
use Rattle.qd_scheme_file.specs.declared.no_scheme.NoScheme.TheVariants as schemes
use Rattle.qds_tools.specs.declared.program_end.ProgramEnd.{ProgramEnd}
use Rattle.qds_tools.specs.declared.program_end.ProgramEnd.TheVariants.{Usage, Refused, Ran, NetFault}
use Rattle.qds_tools.specs.FaultLines.{fault_line}

-- the status of a refused scheme file
abbrev pub scheme_status : NoScheme → ℕ
scheme_status (schemes.Bad bad) = 1
scheme_status (schemes.Wrong line why) = 1
scheme_status (schemes.LineTooLong line) = 1
scheme_status schemes.TooMuch = 1
scheme_status schemes.ReadFault = 3
scheme_status schemes.NoMemory = 5

-- the status of the end of a run
abbrev pub run_status : RunEnd → ℕ
run_status runs.Done = 0
run_status (runs.CutOff line) = 1
run_status (runs.Bad bad) = 1
run_status (runs.LineTooLong line) = 1
run_status (runs.BadStep line) = 1
run_status (runs.Refused line limit) = 1
run_status runs.TooMuch = 1
run_status runs.ReadFault = 3
run_status runs.WriteFault = 4
run_status runs.Spent = 7
run_status runs.NoMemory = 5

-- the status of the program
abbrev pub status_of : ProgramEnd → ℕ
status_of Usage = 2
status_of (Refused why) = scheme_status why
status_of (Ran end) = run_status end
status_of NetFault = 6

-- how the program ends where the words of its command line cannot be had: a word that is no text asks for nothing
abbrev pub end_without_words : ErrorKind → ProgramEnd
end_without_words OutOfMemory = Ran runs.NoMemory
end_without_words kind = Usage

-- a text was written and flushed, or a fault cut it short
abbrev pub Told : List ℕ → Option (List ℕ) → Option (List ℕ) → Bool → ℕ → ℕ → Type 0
Told text was now flushed before after = (IsWritten text was now before after × (flushed ≡ true)) ⊎ IsCutShort text was now before after

-- the status is that of the end, and its line was told
abbrev pub Reports : ProgramEnd → ℕ → Option (List ℕ) → Option (List ℕ) → Bool → ℕ → ℕ → Type 0
Reports end status was now flushed before after = (status ≡ status_of end) × Told (fault_line end) was now flushed before after
