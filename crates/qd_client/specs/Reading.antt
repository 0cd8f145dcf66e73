-- What a run has read when it halts, why it halts, and what is written then.
use Rattle.std.specs.Prelude.{ℕ, ◌≡◌, Bool, true, false, if◌then◌else◌, Option, Some, None, List, [], ◌∷◌, ◌++◌, length}
use Rattle.qd_check.specs.Runs.{Outside}
use Rattle.qd_grammar.specs.declared.item.Item.TheVariants as items
use Rattle.qd_items.specs.declared.ends.TextEnd.{TextEnd}
use Rattle.qd_items.specs.declared.ends.TextEnd.TheVariants as texts
use Rattle.qd_items.specs.Deciding.{Decides}
use Rattle.qd_items.specs.Ends.{Cause}
use Rattle.qd_items.specs.Judging.{Numbered, NoneBehind, items_of, stop_of}
use Rattle.qd_items.specs.Judging.Stop.{Open}
use Rattle.qd_items.specs.Standing.{Past, IsTaken}
use Rattle.qd_outside.specs.Buffering.{Prints}
use Rattle.qd_outside.specs.Reading.{Took}
use Rattle.qd_outside.specs.Writing.{Gained, IsCutShort, IsWritten}
use Rattle.qd_scheme.specs.declared.defs.RecordDef.{RecordDef}
use Rattle.qd_client.specs.declared.ends.Halt.{Halt}
use Rattle.qd_client.specs.declared.ends.Halt.TheVariants as halts
use Rattle.qd_client.specs.Rules.{Rule, is_over, printed, until_over}

-- the items of the lines read
abbrev pub items_in : Rule → List RecordDef → Past → List Numbered
items_in rule defs p = items_of rule.mode defs p.lines

-- a run read so far: these bytes were taken; no line stands behind one that stops the text, and no item behind one that
-- ends the run
pub record IsThrough (rule : Rule) (defs : List RecordDef) (start : Option (List ℕ)) (p : Past) (rest : List ℕ) (left : Option (List ℕ)) : Type 0 where
  pub bytes : IsTaken p rest
  pub took : Took start left p.taken
  pub none_behind : NoneBehind rule.mode defs p.lines
  pub first : until_over rule (items_in rule defs p) ≡ items_in rule defs p

-- the line of the newest item
abbrev pub newest_line : List Numbered → ℕ
newest_line [] = 0
newest_line (n ∷ before) = n.line

-- why it reads no further: the item of the line read last ended the run; or the text ended before one did
abbrev pub HaltedBy : Halt → Rule → List RecordDef → Past → List ℕ → Option (List ℕ) → ℕ → ℕ → Type 0
HaltedBy (halts.Item line) rule defs p rest left before after =
    (is_over rule (items_in rule defs p) ≡ true) × (stop_of rule.mode defs p.lines ≡ Open) × (line ≡ length p.lines) × (newest_line (items_in rule defs p) ≡ line) × (after ≡ before)
HaltedBy (halts.Text end) rule defs p rest left before after =
    (is_over rule (items_in rule defs p) ≡ false) × Cause end (stop_of rule.mode defs p.lines) (length p.lines) rest (length p.taken) left before after

-- a run that was begun wants no memory
abbrev pub HasMemory : Halt → Type 0
HasMemory (halts.Text texts.NoMemory) = ⊥
HasMemory halt = Unit {0}

-- a run halted, and all that its items print is written but for what is held back
pub record IsPrinted (rule : Rule) (defs : List RecordDef) (o : Outside) (halt : Halt) (held : List ℕ) (w : Outside) : Type 0 where
  pub past : Past
  pub rest : List ℕ
  pub through : IsThrough rule defs o.left past rest w.left
  pub halted : HaltedBy halt rule defs past rest w.left o.reads w.reads
  pub wrote : Prints true (printed rule defs (items_in rule defs past)) [] held o.written w.written o.writes w.writes
  pub memory : HasMemory halt

-- a run halted, and all that its items print is written
pub record IsWhole (rule : Rule) (defs : List RecordDef) (o : Outside) (halt : Halt) (w : Outside) : Type 0 where
  pub past : Past
  pub rest : List ℕ
  pub through : IsThrough rule defs o.left past rest w.left
  pub halted : HaltedBy halt rule defs past rest w.left o.reads w.reads
  pub wrote : IsWritten (printed rule defs (items_in rule defs past)) o.written w.written o.writes w.writes

-- a write failed, and a first part of what the items read print is written
pub record IsBroken (rule : Rule) (defs : List RecordDef) (o : Outside) (w : Outside) : Type 0 where
  pub past : Past
  pub rest : List ℕ
  pub through : IsThrough rule defs o.left past rest w.left
  pub wrote : IsCutShort (printed rule defs (items_in rule defs past)) o.written w.written o.writes w.writes

abbrev pub ReadsThrough : Rule → List RecordDef → Outside → Option Halt → List ℕ → Outside → Type 0
ReadsThrough rule defs o (Some halt) held w = IsPrinted rule defs o halt held w
ReadsThrough rule defs o None held w = IsBroken rule defs o w

abbrev pub WritesThrough : Rule → List RecordDef → Outside → Option Halt → Bool → Outside → Type 0
WritesThrough rule defs o (Some halt) flushed w = IsWhole rule defs o halt w × (flushed ≡ true) × HasMemory halt
WritesThrough rule defs o None flushed w = IsBroken rule defs o w

-- what the end of a text prints, behind these items
abbrev pub end_text : Rule → List RecordDef → List Numbered → TextEnd → List ℕ
end_text rule defs before texts.End = rule.text defs before items.End
end_text rule defs before end = []

-- it is printed behind what is held back, or a write failed
abbrev pub EndsAt : Rule → List RecordDef → List Numbered → TextEnd → Option Halt → List ℕ → List ℕ → Option (List ℕ) → Option (List ℕ) → ℕ → ℕ → Type 0
EndsAt rule defs before end (Some halt) old new was now faults after = (halt ≡ halts.Text end) × Prints true (end_text rule defs before end) old new was now faults after
EndsAt rule defs before end None old new was now faults after = IsCutShort (old ++ end_text rule defs before end) was now faults after

-- where a text that ends so halts a run: at the first of its items that ends the run, where one does
abbrev pub halt_of : Rule → TextEnd → List Numbered → Halt
halt_of rule end items = if is_over rule items then halts.Item (newest_line (until_over rule items)) else halts.Text end

-- what was written is a first part of what the items of the text print, up to the one that ends the run
abbrev pub IsFirstPart : Rule → List RecordDef → Option (List ℕ) → Option (List ℕ) → Option (List ℕ) → Type 0
IsFirstPart rule defs left was now =
    (text : List ℕ) (end : TextEnd) (lines : List (List ℕ)) → left ≡ Some text → Decides rule.mode defs text end lines
    → (part : List ℕ) × (rest : List ℕ) × (printed rule defs (until_over rule (items_of rule.mode defs lines)) ≡ part ++ rest) × Gained was now part
