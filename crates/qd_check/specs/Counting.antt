-- What the parts of a run do.
use Rattle.std.specs.Prelude.{ℕ, ◌≡◌, ◌⊎◌, Bool, true, Option, Some, None, List, ◌++◌, length}
use Rattle.qd_grammar.specs.declared.item.Mode.TheVariants.{File}
use Rattle.qd_items.specs.declared.ends.RunEnd.{RunEnd}
use Rattle.qd_items.specs.declared.ends.RunEnd.TheVariants.{WriteFault}
use Rattle.qd_items.specs.declared.ends.TextEnd.{TextEnd}
use Rattle.qd_items.specs.Ends.{EndsAt}
use Rattle.qd_items.specs.Judging.{items_of}
use Rattle.qd_items.specs.Runs.{run_end}
use Rattle.qd_items.specs.Standing.{Past}
use Rattle.qd_outside.specs.Buffering.{Prints}
use Rattle.qd_outside.specs.Writing.{IsCutShort, IsWritten}
use Rattle.qd_scheme.specs.declared.defs.RecordDef.{RecordDef}
use Rattle.qd_check.specs.Printing.{fmt_text}
use Rattle.qd_check.specs.Runs.{Outside, IsPrinted, IsBroken}

-- what stands at the end is printed behind what is held back, or a write failed
abbrev pub PrintsEnd : List ℕ → TextEnd → Option TextEnd → List ℕ → List ℕ → Option (List ℕ) → Option (List ℕ) → ℕ → ℕ → Type 0
PrintsEnd text end (Some last) old new was now before after = (last ≡ end) × Prints true text old new was now before after
PrintsEnd text end None old new was now before after = IsCutShort (old ++ text) was now before after

-- all lines were printed up to the end, or a write failed
abbrev pub PrintsLines : List RecordDef → Outside → Option TextEnd → List ℕ → Outside → Type 0
PrintsLines defs o (Some end) held w = IsPrinted (fmt_text defs) defs o end held w
PrintsLines defs o None held w = IsBroken (fmt_text defs) defs o w

-- so many items were read before the end
abbrev pub Counts : List RecordDef → Option (List ℕ) → TextEnd → ℕ → Option (List ℕ) → ℕ → ℕ → Type 0
Counts defs start end count left before after =
    (p : Past) × (length (items_of File defs p.lines) ≡ count) × (lines : ℕ) × EndsAt File defs start p end lines left before after

-- all that is held back is written, and the run ends as its text did; or a write failed
abbrev pub Finishes : TextEnd → RunEnd → List ℕ → Option (List ℕ) → Option (List ℕ) → Bool → ℕ → ℕ → Type 0
Finishes end last held was now flushed before after =
    ((last ≡ run_end end) × IsWritten held was now before after × (flushed ≡ true)) ⊎ ((last ≡ WriteFault) × IsCutShort held was now before after)
