-- What the run of each command does, and to which end a text leads it.
use Rattle.std.specs.Prelude.{ℕ, ◌≡◌, ◌⊎◌, List, Option, Some, None}
use Rattle.qd_check.specs.Printing.{check_text, fmt_text}
use Rattle.qd_check.specs.Runs.{Outside, Runs, IsDecided}
use Rattle.qd_grammar.specs.declared.item.Mode.TheVariants.{File}
use Rattle.qd_items.specs.declared.ends.RunEnd.{RunEnd}
use Rattle.qd_items.specs.declared.ends.RunEnd.TheVariants as runs
use Rattle.qd_items.specs.declared.ends.TextEnd.{TextEnd}
use Rattle.qd_items.specs.Deciding.{Decides}
use Rattle.qd_items.specs.Runs.{run_end}
use Rattle.qd_replay.specs.Deciding.{IsSound, NoFault}
use Rattle.qd_replay.specs.Ends.{Outside as ReplayOutside, Ends as ReplayEnds}
use Rattle.qd_hub.specs.Configs.{Sizes}
use Rattle.qd_path.specs.Made.{Made}
use Rattle.qd_replay.specs.Settings.{Setting as ScriptSetting, own_books}
use Rattle.qd_scheme.specs.declared.defs.RecordDef.{RecordDef}
use Rattle.qd_words.specs.Asking.{Asked}
use Rattle.qd_words.specs.declared.ask.Command.{Command}
use Rattle.qd_words.specs.declared.ask.Command.TheVariants.{Check, Fmt, Replay}

-- what is told outside, as qd_replay has it
abbrev pub told : Outside → ReplayOutside
told o = record { left = o.left; reads = o.reads; written = o.written; writes = o.writes }

-- what a command runs with: a scheme, and the sizes of a hub
pub record Setting : Type 0 where
  pub defs : List RecordDef
  pub sizes : Sizes

-- where this is its scheme
abbrev pub setting_of : Asked → List RecordDef → Setting
setting_of ask defs = record { defs = defs; sizes = record { stripes = ask.stripes; cap = ask.cap; hcap = ask.hcap } }

-- as qd_replay has it
abbrev pub script_setting : Setting → ScriptSetting
script_setting set = record { defs = set.defs; stripes = set.sizes.stripes }

-- a script ran to its end, on a hub of its own; a sound one is done where no fault was counted, but for want of memory
abbrev pub Replays : Setting → RunEnd → Outside → Outside → Type 0
Replays set end o w =
    ((calls : List Made) × ReplayEnds (script_setting set) (own_books set.sizes) calls end (told o) (told w))
    × ((text : List ℕ) → o.left ≡ Some text → IsSound (script_setting set) (own_books set.sizes) text → NoFault o.reads w.reads o.writes w.writes → (end ≡ runs.Done) ⊎ (end ≡ runs.NoMemory))

-- a command ran over a text; where no fault was counted, the text alone decided how
abbrev pub RunsBy : Command → Setting → Outside → RunEnd → Outside → Type 0
RunsBy Check set o end w = Runs (check_text set.defs) set.defs o end w × IsDecided (check_text set.defs) set.defs o end w
RunsBy Fmt set o end w = Runs (fmt_text set.defs) set.defs o end w × IsDecided (fmt_text set.defs) set.defs o end w
RunsBy Replay set o end w = Replays set end o w

-- a text leads a command to this end, and to these bytes that it prints, where the text alone decides them
abbrev pub LeadsTo : Command → Setting → List ℕ → RunEnd → Option (List ℕ) → Type 0
LeadsTo Check set text end printed = (last : TextEnd) × (lines : List (List ℕ)) × Decides File set.defs text last lines × (end ≡ run_end last) × (printed ≡ Some (check_text set.defs lines))
LeadsTo Fmt set text end printed = (last : TextEnd) × (lines : List (List ℕ)) × Decides File set.defs text last lines × (end ≡ run_end last) × (printed ≡ Some (fmt_text set.defs lines))
LeadsTo Replay set text end printed = IsSound (script_setting set) (own_books set.sizes) text × (end ≡ runs.Done) × (printed ≡ None)
