-- What the program answers to what its words ask for.
use Rattle.std.specs.Prelude.{ℕ, ◌≡◌, ◌⊎◌, Bool, List, Option, Some, None, Ok, Err, IfSome}
use Rattle.qd_items.specs.declared.ends.RunEnd.{RunEnd}
use Rattle.qd_outside.specs.Causes.{Rose}
use Rattle.qd_outside.specs.Writing.{Gained}
use Rattle.qd_scheme.specs.declared.defs.RecordDef.{RecordDef}
use Rattle.qd_scheme_file.specs.declared.no_scheme.NoScheme.{NoScheme}
use Rattle.qd_words.specs.Asking.{Asked}
use Rattle.qd_words.specs.declared.script.ScriptAsk.{ScriptAsk}
use Rattle.qds_tools.specs.declared.program_end.ProgramEnd.{ProgramEnd}
use Rattle.qds_tools.specs.declared.program_end.ProgramEnd.TheVariants.{Usage, Refused, Ran}
use Rattle.qds_tools.specs.Commands.{LeadsTo, setting_of}
use Rattle.qds_tools.specs.Program.{World, Ends, IsScheme, IsText, NoFault}
use Rattle.qds_tools.specs.Scripting.{ScriptEnds, IsScriptDone}
use Rattle.qds_tools.specs.Statuses.{Reports}

-- words that ask for nothing leave all untouched; a script that is asked for is printed, and nothing is read; what else is asked ends with its cause, and where no fault is counted scheme and text alone decide how, but for want of memory
abbrev pub IsAnswer : Option Asked → Option ScriptAsk → Type 0 → Type 0 → World → World → ℕ → Option (List ℕ) → Option (List ℕ) → Bool → ℕ → ℕ → Type 0
IsAnswer None None unread untouched old new status was now flushed before after = untouched × Reports Usage status was now flushed before after
IsAnswer None (Some script) unread untouched old new status was now flushed before after =
    unread × ((end : RunEnd) × ScriptEnds script end old.written new.written old.flushed new.flushed old.writes new.writes × Reports (Ran end) status was now flushed before after)
    × ((Rose old.writes new.writes → ⊥) → IsScriptDone script status old.written new.written was now flushed before after)
IsAnswer (Some ask) script unread untouched old new status was now flushed before after =
    ((end : ProgramEnd) × Ends ask end old new × Reports end status was now flushed before after)
    × ((why : NoScheme) → IsScheme ask.scheme old.files (Err why) → NoFault old new → Reports (Refused why) status was now flushed before after ⊎ (status ≡ 5))
    × ((defs : List RecordDef) (text : List ℕ) (printed : Option (List ℕ)) (end : RunEnd) → IsScheme ask.scheme old.files (Ok defs) → LeadsTo ask.command (setting_of ask defs) text end printed
    → IsText ask.file old text → NoFault old new
    → (Reports (Ran end) status was now flushed before after × IfSome printed (Gained old.written new.written)) ⊎ (status ≡ 5))
