-- What a tape says: items as they came, each behind the time at which it came.
use Rattle.std.specs.Prelude.{ℕ, ◌&&◌, if◌then◌else◌, nat_lt, Bool, true, false, Option, Some, None, List, [], ◌++◌}
use Rattle.qd_check.specs.Printing.{line_of}
use Rattle.qd_grammar.specs.declared.item.Item.{Item}
use Rattle.qd_grammar.specs.declared.item.Item.TheVariants.{Protocol, End, Time}
use Rattle.qd_scheme.specs.declared.defs.RecordDef.{RecordDef}
use Rattle.qd_tape.specs.declared.tape.Wrote.{Wrote}
use Rattle.qd_tape.specs.declared.tape.Wrote.TheVariants.{Done, WriteFault}

-- a tape that is being written: the last time that stands on it, and whether a write failed
pub record Tape : Type 0 where
  pub last : Option ℕ
  pub failed : Bool

-- the items that came at some time: all but the first line and the last one
abbrev pub is_timed : Item → Bool
is_timed Protocol = false
is_timed End = false
is_timed item = true

-- no time stands on the tape yet, or only earlier ones
abbrev pub is_later : Option ℕ → ℕ → Bool
is_later None ms = true
is_later (Some last) ms = nat_lt last ms

-- whether the time stands before an item that came at this time; one that seems to come earlier came at the last time
abbrev pub has_time : Option ℕ → ℕ → Item → Bool
has_time last ms item = is_timed item && is_later last ms

-- the line of an item, and the line of its time before it
abbrev pub tape_text : List RecordDef → Option ℕ → ℕ → Item → List ℕ
tape_text defs last ms item = (if has_time last ms item then line_of defs (Time ms) else []) ++ line_of defs item

-- the last time behind an item
abbrev pub last_time : Option ℕ → ℕ → Item → Option ℕ
last_time last ms item = if has_time last ms item then Some ms else last

-- the tape behind an item, and after a failed write
abbrev pub tape_after : Wrote → ℕ → Item → Tape → Tape
tape_after Done ms item tape = record { last = last_time tape.last ms item; failed = tape.failed }
tape_after WriteFault ms item tape = record { last = tape.last; failed = true }
