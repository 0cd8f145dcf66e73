-- The end of a run whose text ended, and what it leaves of the sink.
use Rattle.std.specs.Prelude.{◌≡◌, Bool, true}
use Rattle.qd_items.specs.declared.ends.TextEnd.{TextEnd}
use Rattle.qd_items.specs.declared.ends.TextEnd.TheVariants.{End, CutOff, Bad, LineTooLong, TooMuch, ReadFault, NoMemory}
use Rattle.qd_items.specs.declared.ends.RunEnd.{RunEnd}
use Rattle.qd_items.specs.declared.ends.RunEnd.TheVariants as runs

abbrev pub run_end : TextEnd → RunEnd
run_end End = runs.Done
run_end (CutOff line) = runs.CutOff line
run_end (Bad bad) = runs.Bad bad
run_end (LineTooLong line) = runs.LineTooLong line
run_end TooMuch = runs.TooMuch
run_end ReadFault = runs.ReadFault
run_end NoMemory = runs.NoMemory

-- the sink is flushed at each end but a fault of writing
abbrev pub IsFlushed : RunEnd → Bool → Type 0
IsFlushed runs.WriteFault flushed = Unit {0}
IsFlushed end flushed = flushed ≡ true
