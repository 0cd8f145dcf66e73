-- What each small step of a reader of items does: it judges a line, or reads once.
use Rattle.std.specs.Prelude.{ℕ, ◌≡◌, ◌+◌, ◌<◌, ◌≤◌, ◌⊎◌, ◌^◌, Bool, true, false, Option, Some, None, Ok, Err, List, [], ◌∷◌, ◌++◌, length}
use Rattle.qd_grammar.specs.declared.item.Item.TheVariants as items
use Rattle.qd_line.specs.Cutter.{IsHungry, IsTooLong}
use Rattle.qd_line.specs.Lines.{is_one_line}
use Rattle.qd_outside.specs.Causes.{Rose}
use Rattle.qd_outside.specs.Reading.{Took, IsSpent}
use Rattle.qd_scheme.specs.declared.defs.RecordDef.{RecordDef}
use Rattle.qd_text.specs.Reading.{state_after}
use Rattle.qd_items.specs.declared.ends.TextEnd.TheVariants.{End, CutOff, Bad, LineTooLong, TooMuch, ReadFault, NoMemory}
use Rattle.qd_items.specs.declared.items.NextItem.{NextItem}
use Rattle.qd_items.specs.declared.items.NextItem.TheVariants as nexts
use Rattle.qd_items.specs.Judging.{is_end, items_of, said}
use Rattle.qd_items.specs.Standing.{Kept, Past, IsRead}

-- the first line of what is left is judged
pub record Judges (defs : List RecordDef) (k new : Kept) (line : List ℕ) : Type 0 where
  pub stood : k.left ≡ line ++ 10 ∷ new.left
  pub one : is_one_line line ≡ true
  pub short : length line ≤ 4096
  pub after : new ≡ record k { item = new.item; state = state_after (said k.mode defs k.state line) k.state; left = new.left; lines = k.lines + 1 }

-- what a source tells is as it was
abbrev pub IsSame : Option (List ℕ) → Option (List ℕ) → ℕ → ℕ → Type 0
IsSame was now before after = (now ≡ was) × (after ≡ before)

-- bytes are read
pub record Reads (k new : Kept) (was now : Option (List ℕ)) (before after : ℕ) : Type 0 where
  pub bytes : List ℕ
  pub hungry : IsHungry k.left
  pub after_them : new ≡ record k { left = k.left ++ bytes; taken = k.taken + length bytes }
  pub took : Took was now bytes
  pub some : 1 ≤ length bytes
  pub within : k.taken + length bytes ≤ 2 ^ 40
  pub same : after ≡ before

-- a step: None where it went on
abbrev pub Steps : List RecordDef → Kept → Option NextItem → Kept → Option (List ℕ) → Option (List ℕ) → ℕ → ℕ → Type 0
Steps defs k None new was now before after =
    ((line : List ℕ) × Judges defs k new line × (said k.mode defs k.state line ≡ Ok None) × IsSame was now before after)
    ⊎ Reads k new was now before after
Steps defs k (Some (nexts.Item item)) new was now before after =
    (line : List ℕ) × Judges defs k new line × (said k.mode defs k.state line ≡ Ok (Some item)) × (is_end item ≡ false) × IsSame was now before after
Steps defs k (Some (nexts.Ended End)) new was now before after =
    (line : List ℕ) × Judges defs k new line × (said k.mode defs k.state line ≡ Ok (Some items.End)) × IsSame was now before after
Steps defs k (Some (nexts.Ended (Bad bad))) new was now before after =
    (line : List ℕ) × Judges defs k new line × (said k.mode defs k.state line ≡ Err (record { place = bad.place; why = bad.why })) × (bad.line ≡ k.lines + 1) × IsSame was now before after
Steps defs k (Some (nexts.Ended (LineTooLong line))) new was now before after = IsTooLong k.left × (line ≡ k.lines + 1) × (new.lines ≡ k.lines) × IsSame was now before after
Steps defs k (Some (nexts.Ended (CutOff line))) new was now before after =
    IsHungry k.left × (line ≡ k.lines) × (new.lines ≡ k.lines) × (k.taken < 2 ^ 40) × Took was now [] × IsSpent now × (after ≡ before)
Steps defs k (Some (nexts.Ended TooMuch)) new was now before after = IsHungry k.left × (k.taken ≡ 2 ^ 40) × (new.lines ≡ k.lines) × IsSame was now before after
Steps defs k (Some (nexts.Ended ReadFault)) new was now before after =
    IsHungry k.left × (k.taken < 2 ^ 40) × (new.lines ≡ k.lines) × Took was now [] × Rose before after
Steps defs k (Some (nexts.Ended NoMemory)) new was now before after = ⊥

-- the next step reads
pub record WillRead (k : Kept) : Type 0 where
  pub hungry : IsHungry k.left
  pub few : k.taken < 2 ^ 40

-- the answer whether the next step reads
abbrev pub TellsRead : Bool → Kept → Type 0
TellsRead true k = WillRead k
TellsRead false k = WillRead k → ⊥

-- what a read came to: bytes, the end of the source, or a fault
abbrev pub IsOfRead : List RecordDef → Kept → Option NextItem → Kept → Option (List ℕ) → Option (List ℕ) → ℕ → ℕ → Type 0
IsOfRead defs k None new was now before after = Reads k new was now before after
IsOfRead defs k (Some (nexts.Ended (CutOff line))) new was now before after = Took was now [] × IsSpent now
IsOfRead defs k (Some (nexts.Ended ReadFault)) new was now before after = Rose before after
IsOfRead defs k next new was now before after = ⊥

-- a step of a reader that will read is a read
abbrev pub HungryReads : Type 0
HungryReads = (defs : List RecordDef) (k new : Kept) (next : Option NextItem) (was now : Option (List ℕ)) (before after : ℕ)
    → WillRead k → Steps defs k next new was now before after → IsOfRead defs k next new was now before after

-- a past in which no item is there that was not there before
pub record WentOn (defs : List RecordDef) (start : Option (List ℕ)) (p : Past) (k : Kept) (left : Option (List ℕ)) : Type 0 where
  pub past : Past
  pub read : IsRead defs start k past left
  pub more : List (List ℕ)
  pub lines : past.lines ≡ more ++ p.lines
  pub same : items_of k.mode defs past.lines ≡ items_of k.mode defs p.lines
