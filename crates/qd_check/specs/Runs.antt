-- How a run of check or fmt ends, with the cause of each end and what is written then. What is printed is a function of
-- the lines that were read.
use Rattle.std.specs.Prelude.{ℕ, ◌≡◌, ◌⊎◌, Option, Some, List, ◌++◌}
use Rattle.qd_grammar.specs.declared.item.Mode.TheVariants.{File}
use Rattle.qd_items.specs.declared.ends.RunEnd.{RunEnd}
use Rattle.qd_items.specs.declared.ends.RunEnd.TheVariants.{WriteFault, NoMemory}
use Rattle.qd_items.specs.declared.ends.TextEnd.{TextEnd}
use Rattle.qd_items.specs.Deciding.{Decides}
use Rattle.qd_items.specs.Ends.{IsEnded}
use Rattle.qd_items.specs.Judging.{NoneBehind}
pub use Rattle.qd_items.specs.Runs.{IsFlushed}
use Rattle.qd_items.specs.Runs.{run_end}
use Rattle.qd_items.specs.Standing.{Past, IsTaken}
use Rattle.qd_outside.specs.Causes.{Rose}
use Rattle.qd_outside.specs.Reading.{Took}
use Rattle.qd_outside.specs.Writing.{Gained}
use Rattle.qd_scheme.specs.declared.defs.RecordDef.{RecordDef}

-- what is told outside: the bytes left, the count of faults of reading, the bytes written, the count of faults of writing
pub record Outside : Type 0 where
  pub left : Option (List ℕ)
  pub reads : ℕ
  pub written : Option (List ℕ)
  pub writes : ℕ

-- the text ended, and all that is printed of its lines is written but for the end that is held back
pub record IsPrinted (printed : List (List ℕ) → List ℕ) (defs : List RecordDef) (o : Outside) (end : TextEnd) (held : List ℕ) (w : Outside) : Type 0 where
  pub past : Past
  pub rest : List ℕ
  pub ended : IsEnded File defs o.left end past rest w.left o.reads w.reads
  pub part : List ℕ
  pub gained : Gained o.written w.written part
  pub whole : printed past.lines ≡ part ++ held
  pub same : w.writes ≡ o.writes

-- the text ended, and all that is printed of its lines is written
pub record IsWhole (printed : List (List ℕ) → List ℕ) (defs : List RecordDef) (o : Outside) (end : TextEnd) (w : Outside) : Type 0 where
  pub past : Past
  pub rest : List ℕ
  pub ended : IsEnded File defs o.left end past rest w.left o.reads w.reads
  pub gained : Gained o.written w.written (printed past.lines)
  pub same : w.writes ≡ o.writes

-- a fault of writing was counted, and a first part of what is printed of the lines read is written
pub record IsBroken (printed : List (List ℕ) → List ℕ) (defs : List RecordDef) (o : Outside) (w : Outside) : Type 0 where
  pub past : Past
  pub rest : List ℕ
  pub bytes : IsTaken past rest
  pub took : Took o.left w.left past.taken
  pub none_behind : NoneBehind File defs past.lines
  pub part : List ℕ
  pub more : List ℕ
  pub gained : Gained o.written w.written part
  pub whole : printed past.lines ≡ part ++ more
  pub rose : Rose o.writes w.writes

-- the end of a run
abbrev pub Runs : (List (List ℕ) → List ℕ) → List RecordDef → Outside → RunEnd → Outside → Type 0
Runs printed defs o end w = ((last : TextEnd) × (end ≡ run_end last) × IsWhole printed defs o last w) ⊎ ((end ≡ WriteFault) × IsBroken printed defs o w)

-- where no fault was counted, the text alone decides the end and what is written, but for want of memory
abbrev pub IsDecided : (List (List ℕ) → List ℕ) → List RecordDef → Outside → RunEnd → Outside → Type 0
IsDecided printed defs o end w =
    (text : List ℕ) (last : TextEnd) (lines : List (List ℕ)) → o.left ≡ Some text → Decides File defs text last lines → (Rose o.reads w.reads → ⊥) → (Rose o.writes w.writes → ⊥)
    → ((end ≡ run_end last) × Gained o.written w.written (printed lines)) ⊎ (end ≡ NoMemory)
