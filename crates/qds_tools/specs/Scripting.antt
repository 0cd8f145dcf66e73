-- What the program prints where its words ask for a script.
use Rattle.std.specs.Prelude.{ℕ, ◌≡◌, ◌⊎◌, Bool, true, List, Option}
use Rattle.qd_items.specs.declared.ends.RunEnd.{RunEnd}
use Rattle.qd_items.specs.declared.ends.RunEnd.TheVariants as runs
use Rattle.qd_outside.specs.Writing.{Gained, IsWritten, IsCutShort}
use Rattle.qd_tape.specs.Scripts.{generated}
use Rattle.qd_words.specs.declared.script.ScriptAsk.{ScriptAsk}
use Rattle.qds_tools.specs.declared.program_end.ProgramEnd.TheVariants.{Ran}
use Rattle.qds_tools.specs.Statuses.{Reports}

-- the script is written whole and flushed; a fault was counted and a first part of it is written; or there was no memory to begin, and nothing is written
abbrev pub ScriptEnds : ScriptAsk → RunEnd → Option (List ℕ) → Option (List ℕ) → Bool → Bool → ℕ → ℕ → Type 0
ScriptEnds ask runs.Done was now before after faults later = IsWritten (generated ask.start ask.count) was now faults later × (after ≡ true)
ScriptEnds ask runs.WriteFault was now before after faults later = IsCutShort (generated ask.start ask.count) was now faults later
ScriptEnds ask runs.NoMemory was now before after faults later = (now ≡ was) × (after ≡ before) × (later ≡ faults)
ScriptEnds ask end was now before after faults later = ⊥

-- the script is written whole and the status says so, but for want of memory
abbrev pub IsScriptDone : ScriptAsk → ℕ → Option (List ℕ) → Option (List ℕ) → Option (List ℕ) → Option (List ℕ) → Bool → ℕ → ℕ → Type 0
IsScriptDone ask status was now told line flushed before after = (Reports (Ran runs.Done) status told line flushed before after × Gained was now (generated ask.start ask.count)) ⊎ (status ≡ 5)
