-- How a tape is read back: its lines, one behind the other, spell the items and their times.
use Rattle.std.specs.Prelude.{ℕ, ◌≡◌, ◌+◌, ◌<◌, ◌≤◌, ◌^◌, length, if◌then◌else◌, Bool, true, false, Option, None, List, [], ◌∷◌, ◌++◌}
use Rattle.qd_grammar.specs.Canonical.{canonical}
use Rattle.qd_grammar.specs.Items.{IsItem, MayStand}
use Rattle.qd_grammar.specs.Lines.{Spells, after, first_state}
use Rattle.qd_grammar.specs.declared.item.Item.{Item}
use Rattle.qd_grammar.specs.declared.item.Item.TheVariants.{Time}
use Rattle.qd_grammar.specs.declared.item.Mode.TheVariants.{File}
use Rattle.qd_grammar.specs.declared.state.State.{State}
use Rattle.qd_items.specs.Deciding.{Decides}
use Rattle.qd_items.specs.Judging.{Numbered, items_of}
use Rattle.qd_items.specs.declared.ends.TextEnd.TheVariants as texts
use Rattle.qd_scheme.specs.Builtin.{builtin_defs}
use Rattle.qd_scheme.specs.Schemes.{IsScheme}
use Rattle.qd_scheme.specs.declared.defs.RecordDef.{RecordDef}
use Rattle.qd_tape.specs.Scripts.{generated, generated_items, lines_text}
use Rattle.qd_tape.specs.Tapes.{has_time, last_time, tape_text}

-- an item, and the time at which it came
pub record Came : Type 0 where
  pub ms : ℕ
  pub item : Item

-- what a tape says of items that came one after another, behind a last time: the items, and the times before them
abbrev pub taped : Option ℕ → List Came → List Item
taped last [] = []
taped last (x ∷ more) = (if has_time last x.ms x.item then Time x.ms ∷ [] else []) ++ x.item ∷ taped (last_time last x.ms x.item) more

-- what is written of them, one after another
abbrev pub tape_of : List RecordDef → Option ℕ → List Came → List ℕ
tape_of defs last [] = []
tape_of defs last (x ∷ more) = tape_text defs last x.ms x.item ++ tape_of defs (last_time last x.ms x.item) more

-- the lines of these items are read as these items, in the state that those before leave
abbrev pub AreRead : State → List RecordDef → List Item → Type 0
AreRead s defs [] = Unit {0}
AreRead s defs (item ∷ more) = Spells File s defs (canonical defs item) item × AreRead (after item s) defs more

abbrev pub is_time : Item → Bool
is_time (Time ms) = true
is_time item = false

-- an item of the scheme that may stand there and is no time, and a time that a line may tell
pub record MayCome (s : State) (defs : List RecordDef) (x : Came) : Type 0 where
  pub item : IsItem defs x.item
  pub place : MayStand File s defs x.item
  pub no_time : is_time x.item ≡ false
  pub few : x.ms < 2 ^ 63

-- such items one after another
abbrev pub MayFollow : State → List RecordDef → List Came → Type 0
MayFollow s defs [] = Unit {0}
MayFollow s defs (x ∷ more) = MayCome s defs x × MayFollow (after x.item s) defs more

-- what is written of any items is the lines of what the tape says of them
abbrev pub IsWrittenAsSaid : Type 0
IsWrittenAsSaid = (defs : List RecordDef) (items : List Came) → tape_of defs None items ≡ lines_text defs (taped None items)

-- and where the items may follow one another, those lines are read as what the tape says
abbrev pub IsReadAsSaid : Type 0
IsReadAsSaid = (defs : List RecordDef) (items : List Came) → IsScheme defs → MayFollow first_state defs items → AreRead first_state defs (taped None items)

-- each line of a generated script is read as its item
abbrev pub IsScriptRead : Type 0
IsScriptRead = (start count : ℕ) → start < 2 ^ 32 → count < 2 ^ 32 → AreRead first_state builtin_defs (generated_items start count)

-- items that stand each on a line of its own behind these, the newest first
abbrev pub numbered_behind : List Numbered → List Item → List Numbered
numbered_behind before [] = before
numbered_behind before (item ∷ more) = numbered_behind (record { line = length before + 1; item = item } ∷ before) more

-- a generated text comes to END without a fault, and its lines have exactly the items of the script
abbrev pub IsScriptWhole : Type 0
IsScriptWhole = (start count : ℕ) → start < 2 ^ 32 → count ≤ 600000
    → (lines : List (List ℕ)) × Decides File builtin_defs (generated start count) texts.End lines × (items_of File builtin_defs lines ≡ numbered_behind [] (generated_items start count))
