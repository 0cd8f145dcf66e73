-- What a run of the program reads and prints, and how it ends.
use Rattle.std.specs.Prelude.{ℕ, ◌≡◌, ◌⊎◌, Bool, true, false, List, Option, Some, None, Result, Ok, Err}
use Rattle.qd_check.specs.Runs.{IsFlushed}
use Rattle.qd_items.specs.declared.ends.RunEnd.{RunEnd}
use Rattle.qd_items.specs.declared.ends.RunEnd.TheVariants as runs
use Rattle.qd_outside.specs.Causes.{Rose}
use Rattle.qd_outside.specs.Opening.{FilesState, OpensIn}
use Rattle.qd_scheme.specs.Builtin.{builtin_defs}
use Rattle.qd_scheme.specs.declared.defs.RecordDef.{RecordDef}
use Rattle.qd_scheme_file.specs.declared.no_scheme.NoScheme.{NoScheme}
use Rattle.qd_scheme_file.specs.declared.no_scheme.NoScheme.TheVariants as schemes
use Rattle.qd_scheme_file.specs.Ends.{Ends as FileEnds, Decides as FileDecides}
use Rattle.qd_words.specs.Asking.{Asked}
use Rattle.qd_words.specs.declared.ask.Command.{Command}
use Rattle.qds_tools.specs.declared.program_end.ProgramEnd.{ProgramEnd}
use Rattle.qds_tools.specs.declared.program_end.ProgramEnd.TheVariants.{Usage, Refused, Ran, NetFault}
use Rattle.qds_tools.specs.Commands.{Setting, setting_of, RunsBy}

-- what is told outside: by the files, of standard input and of standard output
pub record World : Type 0 where
  pub files : FilesState
  pub left : Option (List ℕ)
  pub reads : ℕ
  pub written : Option (List ℕ)
  pub flushed : Bool
  pub writes : ℕ

-- of the file that is read, some was read, and nothing else changed
abbrev pub IsReadOn : FilesState → FilesState → Type 0
IsReadOn before after = after ≡ record before { left = after.left; read_faults = after.read_faults }

-- a scheme file of this name was opened and read to an end, or it could not be opened
abbrev pub SchemeRead : List ℕ → Result (List RecordDef) NoScheme → FilesState → FilesState → Type 0
SchemeRead name end before after =
    ((opened : FilesState) × OpensIn true name before opened × FileEnds end opened.left after.left opened.read_faults after.read_faults × IsReadOn opened after)
    ⊎ (OpensIn false name before after × (end ≡ Err schemes.ReadFault))

-- the scheme of a command: the built-in one, or that of the scheme file
abbrev pub SchemeComes : Option (List ℕ) → Result (List RecordDef) NoScheme → FilesState → FilesState → Type 0
SchemeComes None (Ok defs) before after = (defs ≡ builtin_defs) × (after ≡ before)
SchemeComes None (Err why) before after = (why ≡ schemes.NoMemory) × (after ≡ before)
SchemeComes (Some name) end before after = SchemeRead name end before after

-- a command ran over standard input
abbrev pub RunsOnInput : Command → Setting → RunEnd → World → World → Type 0
RunsOnInput command set end o w =
    RunsBy command set (record { left = o.left; reads = o.reads; written = o.written; writes = o.writes }) end (record { left = w.left; reads = w.reads; written = w.written; writes = w.writes })
    × IsFlushed end w.flushed × (w.files ≡ o.files)

-- a command ran over the file of this name, or it could not be opened: the files, what is written, whether it is flushed, and the faults of writing, before and after
abbrev pub FileRuns : Command → Setting → List ℕ → RunEnd → FilesState → FilesState → Option (List ℕ) → Option (List ℕ) → Bool → Bool → ℕ → ℕ → Type 0
FileRuns command set name end before after was now flushed ends writes later =
    ((opened : FilesState) × OpensIn true name before opened
    × RunsBy command set (record { left = opened.left; reads = opened.read_faults; written = was; writes = writes }) end (record { left = after.left; reads = after.read_faults; written = now; writes = later })
    × IsFlushed end ends × IsReadOn opened after)
    ⊎ (OpensIn false name before after × (end ≡ runs.ReadFault) × (now ≡ was) × (ends ≡ flushed) × (later ≡ writes))

-- nothing was read from standard input
abbrev pub IsUnread : World → World → Type 0
IsUnread o w = (w.left ≡ o.left) × (w.reads ≡ o.reads)

-- nothing was written to standard output
abbrev pub IsUnwritten : World → World → Type 0
IsUnwritten o w = (w.written ≡ o.written) × (w.flushed ≡ o.flushed) × (w.writes ≡ o.writes)

-- a command ran over its text
abbrev pub RunsOn : Command → Setting → Option (List ℕ) → RunEnd → World → World → Type 0
RunsOn command set None end o w = RunsOnInput command set end o w
RunsOn command set (Some name) end o w = FileRuns command set name end o.files w.files o.written w.written o.flushed w.flushed o.writes w.writes × IsUnread o w

-- how what was asked ended: the scheme comes first, then the run over the text; where the scheme is refused, no text is read and nothing is written
abbrev pub Ends : Asked → ProgramEnd → World → World → Type 0
Ends ask Usage o w = ⊥
Ends ask NetFault o w = ⊥
Ends ask (Refused why) o w = SchemeComes ask.scheme (Err why) o.files w.files × IsUnread o w × IsUnwritten o w
Ends ask (Ran end) o w = (defs : List RecordDef) × (files : FilesState) × SchemeComes ask.scheme (Ok defs) o.files files × RunsOn ask.command (setting_of ask defs) ask.file end (record o { files = files }) w

-- the file of this name has these bytes, as the files tell
abbrev pub HasText : FilesState → List ℕ → List ℕ → Type 0
HasText files name bytes = (holds : List ℕ → Option (List ℕ)) × (files.holds ≡ Some holds) × (holds name ≡ Some bytes)

-- the scheme that is asked for is told
abbrev pub IsScheme : Option (List ℕ) → FilesState → Result (List RecordDef) NoScheme → Type 0
IsScheme None files end = end ≡ Ok builtin_defs
IsScheme (Some name) files end = (bytes : List ℕ) × HasText files name bytes × FileDecides bytes end

-- the text that is asked for is told
abbrev pub IsText : Option (List ℕ) → World → List ℕ → Type 0
IsText None o text = o.left ≡ Some text
IsText (Some name) o text = HasText o.files name text

-- no fault was counted
abbrev pub NoFault : World → World → Type 0
NoFault o w = (Rose o.files.read_faults w.files.read_faults → ⊥) × (Rose o.reads w.reads → ⊥) × (Rose o.writes w.writes → ⊥)
