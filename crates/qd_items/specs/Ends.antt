-- What comes next of a text: an item, or its end with the cause.
use Rattle.std.specs.Prelude.{ℕ, ◌≡◌, ◌+◌, ◌<◌, ◌^◌, false, Option, List, ◌∷◌, ◌++◌, length}
use Rattle.qd_grammar.specs.declared.item.Item.TheVariants as items
use Rattle.qd_grammar.specs.declared.item.Mode.{Mode}
use Rattle.qd_line.specs.Cutter.{IsHungry, IsTooLong}
use Rattle.qd_outside.specs.Causes.{Rose}
use Rattle.qd_outside.specs.Reading.{Took, IsSpent}
use Rattle.qd_scheme.specs.declared.defs.RecordDef.{RecordDef}
use Rattle.qd_items.specs.declared.ends.TextEnd.{TextEnd}
use Rattle.qd_items.specs.declared.ends.TextEnd.TheVariants.{End, CutOff, Bad, LineTooLong, TooMuch, ReadFault, NoMemory}
use Rattle.qd_items.specs.declared.items.NextItem.{NextItem}
use Rattle.qd_items.specs.declared.items.NextItem.TheVariants as nexts
use Rattle.qd_items.specs.Judging.{Numbered, items_of, Stop, stop_of, is_end}
use Rattle.qd_items.specs.Judging.Stop.{Open, AtEnd, AtBad}
use Rattle.qd_items.specs.Standing.{Kept, Past, IsTaken, IsRead}

-- no line stops the text, no further line is among the bytes, and what is left is not too long
abbrev pub IsUnended : Stop → List ℕ → Type 0
IsUnended stop rest = (stop ≡ Open) × IsHungry rest

-- an end that the bytes are the cause of: where these lines stop, how many they are, what follows them, how many bytes
-- were taken, and what is left behind these
abbrev pub Causes : TextEnd → Stop → ℕ → List ℕ → ℕ → Option (List ℕ) → Type 0
Causes End stop count rest taken left = stop ≡ AtEnd count
Causes (CutOff line) stop count rest taken left = IsUnended stop rest × (taken < 2 ^ 40) × IsSpent left × (line ≡ count)
Causes (Bad bad) stop count rest taken left = (stop ≡ AtBad bad) × (bad.line ≡ count)
Causes (LineTooLong line) stop count rest taken left = (stop ≡ Open) × IsTooLong rest × (line ≡ count + 1)
Causes TooMuch stop count rest taken left = IsUnended stop rest × (taken ≡ 2 ^ 40)
Causes ReadFault stop count rest taken left = ⊥
Causes NoMemory stop count rest taken left = ⊥

-- the cause of an end: of the bytes, where no fault was counted; or a fault, where all whole lines were judged; or want of
-- memory, before the first byte
abbrev pub Cause : TextEnd → Stop → ℕ → List ℕ → ℕ → Option (List ℕ) → ℕ → ℕ → Type 0
Cause ReadFault stop count rest taken left before after = IsUnended stop rest × (taken < 2 ^ 40) × Rose before after
Cause NoMemory stop count rest taken left before after = (stop ≡ Open) × (taken ≡ 0) × (after ≡ before)
Cause end stop count rest taken left before after = Causes end stop count rest taken left × (after ≡ before)

-- the text ended in this past, with what follows its lines
pub record IsEnded (mode : Mode) (defs : List RecordDef) (start : Option (List ℕ)) (end : TextEnd) (p : Past) (rest : List ℕ) (left : Option (List ℕ)) (before after : ℕ) : Type 0 where
  pub bytes : IsTaken p rest
  pub took : Took start left p.taken
  pub cause : Cause end (stop_of mode defs p.lines) (length p.lines) rest (length p.taken) left before after

-- the items that the end adds: END itself, which stands on the last line
abbrev pub last_items : TextEnd → ℕ → List Numbered → List Numbered
last_items End line before = record { line = line; item = items.End } ∷ before
last_items end line before = before

-- from a past on, the text ended, once so many lines were judged; a reader that is there wants no memory
abbrev pub EndsAt : Mode → List RecordDef → Option (List ℕ) → Past → TextEnd → ℕ → Option (List ℕ) → ℕ → ℕ → Type 0
EndsAt mode defs start p end lines left before after =
    (q : Past) × (rest : List ℕ) × IsEnded mode defs start end q rest left before after
    × ((more : List (List ℕ)) × (q.lines ≡ more ++ p.lines))
    × (items_of mode defs q.lines ≡ last_items end (length q.lines) (items_of mode defs p.lines))
    × (lines ≡ length q.lines)
    × (end ≡ NoMemory → ⊥)

-- from a past on: the next item, which is not END and stands on the line judged last; or the end. Lines that were skipped
-- are passed over
abbrev pub ComesNext : List RecordDef → Option (List ℕ) → Past → NextItem → Kept → Option (List ℕ) → ℕ → ℕ → Type 0
ComesNext defs start p (nexts.Item item) k left before after =
    (q : Past) × IsRead defs start k q left
    × ((more : List (List ℕ)) × (q.lines ≡ more ++ p.lines))
    × (items_of k.mode defs q.lines ≡ record { line = k.lines; item = item } ∷ items_of k.mode defs p.lines)
    × (is_end item ≡ false)
    × (after ≡ before)
ComesNext defs start p (nexts.Ended end) k left before after = EndsAt k.mode defs start p end k.lines left before after
