-- How a run of post ends, with the cause of each end and what is sent then.
use Rattle.std.specs.Prelude.{ℕ, ◌≡◌, ◌⊎◌, Bool, true, Some, List}
use Rattle.qd_check.specs.Runs.{Outside}
use Rattle.qd_grammar.specs.declared.item.Mode.TheVariants.{File}
use Rattle.qd_items.specs.declared.ends.RunEnd.{RunEnd}
use Rattle.qd_items.specs.declared.ends.RunEnd.TheVariants as runs
use Rattle.qd_items.specs.declared.ends.TextEnd.{TextEnd}
use Rattle.qd_items.specs.Deciding.{Decides}
use Rattle.qd_items.specs.Judging.{items_of}
use Rattle.qd_items.specs.Runs.{run_end}
use Rattle.qd_outside.specs.Causes.{Rose}
use Rattle.qd_outside.specs.Writing.{Gained}
use Rattle.qd_scheme.specs.declared.defs.RecordDef.{RecordDef}
use Rattle.qd_client.specs.declared.ends.Halt.{Halt}
use Rattle.qd_client.specs.declared.ends.Halt.TheVariants as halts
use Rattle.qd_client.specs.Reading.{IsBroken, IsFirstPart, IsWhole, halt_of}
use Rattle.qd_client.specs.Rules.{post_rule, printed, until_over}

-- an item that asks for a step of a script is a bad one
abbrev pub post_end : Halt → RunEnd
post_end (halts.Item line) = runs.BadStep line
post_end (halts.Text end) = run_end end

-- the run ended as it halted, and all that it read was sent; or a write failed
abbrev pub Posts : List RecordDef → Outside → RunEnd → Outside → Type 0
Posts defs o end w = ((halt : Halt) × (end ≡ post_end halt) × IsWhole post_rule defs o halt w) ⊎ ((end ≡ runs.WriteFault) × IsBroken post_rule defs o w)

-- the sink is flushed at each end but a fault of writing, and want of memory, at which nothing was sent
abbrev pub IsFlushed : RunEnd → Bool → Type 0
IsFlushed runs.WriteFault flushed = Unit {0}
IsFlushed runs.NoMemory flushed = Unit {0}
IsFlushed end flushed = flushed ≡ true

abbrev pub AreFirstParts : List RecordDef → Outside → Outside → Type 0
AreFirstParts defs o w = IsFirstPart post_rule defs o.left o.written w.written

-- where no fault was counted, the text alone decides the end and what is sent, but for want of memory
abbrev pub IsDecided : List RecordDef → Outside → RunEnd → Outside → Type 0
IsDecided defs o end w =
    (text : List ℕ) (last : TextEnd) (lines : List (List ℕ)) → o.left ≡ Some text → Decides File defs text last lines → (Rose o.reads w.reads → ⊥) → (Rose o.writes w.writes → ⊥)
    → ((end ≡ post_end (halt_of post_rule last (items_of File defs lines))) × Gained o.written w.written (printed post_rule defs (until_over post_rule (items_of File defs lines)))) ⊎ (end ≡ runs.NoMemory)
