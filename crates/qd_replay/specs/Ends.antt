-- How a run ends, with the cause of each end.
pub use Rattle.qd_items.specs.Runs.{IsFlushed}
use Rattle.std.specs.Prelude.{ℕ, ◌≡◌, ◌⊎◌, Bool, true, false, if◌then◌else◌, Option, List, [], ◌∷◌, ◌++◌, length}
use Rattle.qd_grammar.specs.declared.item.Item.TheVariants as items
use Rattle.qd_grammar.specs.declared.item.Mode.TheVariants.{File}
use Rattle.qd_items.specs.declared.ends.RunEnd.{RunEnd}
use Rattle.qd_items.specs.declared.ends.RunEnd.TheVariants.{WriteFault}
use Rattle.qd_items.specs.declared.ends.TextEnd.{TextEnd}
use Rattle.qd_items.specs.declared.ends.TextEnd.TheVariants as texts
use Rattle.qd_items.specs.Ends.{Cause, IsUnended}
use Rattle.qd_items.specs.Judging.{Numbered, items_of, Stop, stop_of, is_end}
use Rattle.qd_items.specs.Judging.Stop.{Open, AtEnd}
use Rattle.qd_items.specs.Runs.{run_end}
use Rattle.qd_items.specs.Standing.{Kept, Past, IsTaken, IsRead}
use Rattle.qd_outside.specs.Causes.{Rose}
use Rattle.qd_outside.specs.Reading.{Took}
use Rattle.qd_outside.specs.Writing.{IsWritten, IsCutShort}
use Rattle.qd_path.specs.Lists.{Lists, GrewBy}
use Rattle.qd_path.specs.Made.{Made}
use Rattle.qd_replay.specs.Running.{Ran, AreLegal}
use Rattle.qd_replay.specs.Scripts.{Act, script_of, acts_with, acts_of, AreOpen}
use Rattle.qd_replay.specs.Settings.{Books, Setting, books_of}
use Rattle.qd_replay.specs.Steps.{Kept as EngineKept, Sunk, IsAt, Halts, ToldBy, is_write_fault, Stops}

-- what the outside tells: the bytes left, the count of read faults, the bytes written, the count of write faults
pub record Outside : Type 0 where
  pub left : Option (List ℕ)
  pub reads : ℕ
  pub written : Option (List ℕ)
  pub writes : ℕ

abbrev pub sunk : Outside → Sunk
sunk o = record { written = o.written; faults = o.writes }

-- where lines stop whose last one spells an item
abbrev pub stop_at : Numbered → Stop
stop_at x = if is_end x.item then AtEnd x.line else Open

-- the last line ended the run: the script was open before it, and of all that the lines lead to what is not done is `later`, all of it of this line
pub record IsOfItem (set : Setting) (end : RunEnd) (items : List Numbered) (count : ℕ) (stop : Stop) (done later : List Act) (refused : List Made) (o w : Outside) : Type 0 where
  pub last : Numbered
  pub before : List Numbered
  pub now : List Act
  pub items_are : items ≡ last ∷ before
  pub newest : last.line ≡ count
  pub are_open : AreOpen before
  pub done_is : done ≡ acts_of set.stripes before ++ now
  pub stop_is : stop ≡ stop_at last
  pub cause : Stops end (script_of before) last.item last.line later refused o.writes w.writes
  pub reads : w.reads ≡ o.reads

-- the text ended before `==END`, and all that its lines lead to was done
pub record IsOfText (end : RunEnd) (items : List Numbered) (count : ℕ) (stop : Stop) (later : List Act) (refused : List Made) (rest : List ℕ) (taken : ℕ) (o w : Outside) : Type 0 where
  pub text_end : TextEnd
  pub end_is : end ≡ run_end text_end
  pub early : text_end ≡ texts.End → ⊥
  pub are_open : AreOpen items
  pub all_done : (later ≡ []) × (refused ≡ [])
  pub cause : Cause text_end stop count rest taken w.left o.reads w.reads

-- a write failed before a read: the script is open, all that the lines lead to was done, and no whole line is left
pub record IsOfWriting (end : RunEnd) (items : List Numbered) (stop : Stop) (later : List Act) (refused : List Made) (rest : List ℕ) (o w : Outside) : Type 0 where
  pub end_is : end ≡ WriteFault
  pub are_open : AreOpen items
  pub unended : IsUnended stop rest
  pub all_done : (later ≡ []) × (refused ≡ [])
  pub rose : Rose o.writes w.writes
  pub reads : w.reads ≡ o.reads

-- the cause of an end, by the bytes taken, their lines, what these lead to, and the call that was refused, if one was
abbrev pub IsCaused : RunEnd → Setting → Past → List ℕ → List Act → List Act → List Made → Outside → Outside → Type 0
IsCaused end set p rest done later refused o w =
    IsOfItem set end (items_of File set.defs p.lines) (length p.lines) (stop_of File set.defs p.lines) done later refused o w
    ⊎ (IsOfText end (items_of File set.defs p.lines) (length p.lines) (stop_of File set.defs p.lines) later refused rest (length p.taken) o w
    ⊎ IsOfWriting end (items_of File set.defs p.lines) (stop_of File set.defs p.lines) later refused rest o w)

-- what a run did until it ended: the bytes taken are lines and a rest; of what the lines lead to, the acts `done` were done, once
-- and in order, and the acts `later` were not
pub record IsBegun (set : Setting) (p : Past) (rest : List ℕ) (done later : List Act) (made : List Made) (out : List ℕ) (o w : Outside) : Type 0 where
  pub bytes : IsTaken p rest
  pub took : Took o.left w.left p.taken
  pub acts : acts_of set.stripes (items_of File set.defs p.lines) ≡ done ++ later
  pub ran : Ran set.stripes set.defs done made out

-- a run came to its end, where this text is held back
pub record HasEnded (set : Setting) (end : RunEnd) (o : Outside) (held : List ℕ) (w : Outside) : Type 0 where
  pub past : Past
  pub rest : List ℕ
  pub done : List Act
  pub later : List Act
  pub made : List Made
  pub refused : List Made
  pub out : List ℕ
  pub begun : IsBegun set past rest done later made out o w
  pub cause : IsCaused end set past rest done later refused o w
  pub told : ToldBy (is_write_fault end) (sunk o) (sunk w) out held

-- since the lists of the hub were `l`, they grew by the calls of what was done, and by one that was refused, if one was
abbrev pub IsEnded : Setting → RunEnd → Outside → Lists → Lists → List ℕ → Outside → Type 0
IsEnded set end o l m held w = (e : HasEnded set end o held w) × GrewBy set.stripes (e.made ++ e.refused) l m

-- all that was printed is written; or a write failed, and a first part is
abbrev pub Wrote : RunEnd → List ℕ → Outside → Outside → Type 0
Wrote end out o w = IsWritten out o.written w.written o.writes w.writes ⊎ ((end ≡ WriteFault) × IsCutShort out o.written w.written o.writes w.writes)

-- the end of a run that made these calls, its cause, and what is written; the calls are a legal log of each stripe. `reached` is how it
-- ended, but for a fault of the last write
pub record Ends (set : Setting) (books : Books) (calls : List Made) (end : RunEnd) (o w : Outside) : Type 0 where
  pub reached : RunEnd
  pub past : Past
  pub rest : List ℕ
  pub done : List Act
  pub later : List Act
  pub made : List Made
  pub refused : List Made
  pub out : List ℕ
  pub calls_are : calls ≡ made ++ refused
  pub begun : IsBegun set past rest done later made out o w
  pub legal : AreLegal set.stripes books calls
  pub cause : IsCaused reached set past rest done later refused o w
  pub last : (end ≡ reached) ⊎ ((end ≡ WriteFault) × Rose o.writes w.writes)
  pub wrote : Wrote end out o w

-- a run over a hub ended: the hub's lists grew by just its calls
abbrev pub RunsOver : Setting → Lists → Lists → RunEnd → Outside → Outside → Type 0
RunsOver set l m end o w = (calls : List Made) × GrewBy set.stripes calls l m × Ends set (books_of l) calls end o w

-- what is held back is written at the end, unless a write failed before
abbrev pub Finishes : RunEnd → RunEnd → List ℕ → Option (List ℕ) → Option (List ℕ) → Bool → ℕ → ℕ → Type 0
Finishes end last held was now flushed before after =
    ((is_write_fault end ≡ true) × (last ≡ end) × (now ≡ was) × (after ≡ before))
    ⊎ (((is_write_fault end ≡ false) × (last ≡ end) × (flushed ≡ true) × IsWritten held was now before after)
    ⊎ ((is_write_fault end ≡ false) × (last ≡ WriteFault) × IsCutShort held was now before after))

-- a run between two items: since the start the bytes of its lines were taken, and all that they lead to was done
pub record IsRunning (set : Setting) (o : Outside) (l : Lists) (items : Kept) (e : EngineKept) (m : Lists) (w : Outside) : Type 0 where
  pub past : Past
  pub read : IsRead set.defs o.left items past w.left
  pub mode : items.mode ≡ File
  pub script : e.script ≡ script_of (items_of File set.defs past.lines)
  pub are_open : AreOpen (items_of File set.defs past.lines)
  pub at : IsAt set (sunk o) l (acts_of set.stripes (items_of File set.defs past.lines)) m e.held (sunk w)
  pub same : w.reads ≡ o.reads

-- a text ended: END is heard, and any other end is that of the run
abbrev pub LastBy : Setting → TextEnd → ℕ → RunEnd → EngineKept → Lists → Sunk → EngineKept → Lists → Sunk → Type 0
LastBy set texts.End line result e l w f m v = Halts set result e.script items.End line (acts_with set.stripes items.End e.script) e.held l w f.held m v
LastBy set end line result e l w f m v = (result ≡ run_end end) × (f.held ≡ e.held) × (m ≡ l) × (v ≡ w)
