-- What `load` does: the script is run, what it gave is counted, and one line tells the counts.
use Rattle.std.specs.Prelude.{ℕ, ◌≡◌, ◌<◌, Bool, true, false, Option, Some, None, Result, Ok, Err, List, [], ◌∷◌, ◌++◌, length, codes, decimal}
use Rattle.qd_items.specs.declared.ends.RunEnd.{RunEnd}
use Rattle.qd_items.specs.declared.ends.RunEnd.TheVariants as ends
use Rattle.qd_outside.specs.Writing.{IsWritten, IsCutShort}
use Rattle.qd_path.specs.Made.{Made, entries, ticker_calls, stream_calls, history_calls}
use Rattle.qd_replay.specs.Ends.{Outside, Ends}
use Rattle.qd_replay.specs.Running.{Ran, AreLegal}
use Rattle.qd_replay.specs.Scripts.{acts_of}
use Rattle.qd_replay.specs.Settings.{Books, Setting}
use Rattle.qd_scheme.specs.Builtin.{builtin_defs}
use Rattle.qd_tape.specs.Reading.{numbered_behind}
use Rattle.qd_tape.specs.Scripts.{generated, generated_items}
use Rattle.qd_load.specs.declared.totals.Totals.{Totals}
use Rattle.qd_load.specs.Counting.{stopped, script_keys, HaveSizes, sum_from}
use Rattle.qd_load.specs.Given.{given, records_in, lost_in, events_given}

-- the setting of the generated script
abbrev pub setting : ℕ → Setting
setting stripes = record { defs = builtin_defs; stripes = stripes }

-- these calls are all that the generated script asks for, in order, with their replies; none was refused, and they are a legal log of each stripe
pub record HasRun (stripes : ℕ) (books : Books) (start count : ℕ) (calls : List Made) : Type 0 where
  pub out : List ℕ
  pub ran : Ran stripes builtin_defs (acts_of stripes (numbered_behind [] (generated_items start count))) calls out
  pub legal : AreLegal stripes books calls

-- the counts are those of what the logs of all stripes gave: the records of the ticker, the records of the stream and those that it told as
-- lost, and over the keys of the history the indexes of the maps that the events given show at their last commit place
pub record AreTold (stripes : ℕ) (books : Books) (calls : List Made) (c : Totals) : Type 0 where
  pub records : c.records ≡ stopped (sum_from 0 stripes (λ i. length (given (entries (books.ticker i).number (ticker_calls i calls)))))
  pub items : c.items ≡ stopped (sum_from 0 stripes (λ i. records_in (given (entries (books.stream i).number (stream_calls i calls)))))
  pub lost : c.lost ≡ stopped (sum_from 0 stripes (λ i. lost_in (given (entries (books.stream i).number (stream_calls i calls)))))
  pub sizes : ℕ → ℕ
  pub sizes_are : (i : ℕ) → i < stripes → HaveSizes script_keys (events_given (entries (books.history i).number (history_calls i calls))) (sizes i)
  pub entries : c.entries ≡ stopped (sum_from 0 stripes sizes)

-- the line that tells the counts
abbrev pub summary : Totals → List ℕ
summary c = ((((((((codes "ticker " ++ decimal c.records) ++ codes " stream ") ++ decimal c.items) ++ codes " lost ") ++ decimal c.lost) ++ codes " history ") ++ decimal c.entries) ++ 10 ∷ [])

-- the script has run, and its counts are these
pub record Counted (stripes : ℕ) (books : Books) (start count : ℕ) (c : Totals) : Type 0 where
  pub calls : List Made
  pub run : HasRun stripes books start count calls
  pub counted : AreTold stripes books calls c

-- nothing is written
abbrev pub IsUnwritten : Option (List ℕ) → Option (List ℕ) → Bool → Bool → ℕ → ℕ → Type 0
IsUnwritten was now before flushed faults later = (now ≡ was) × (flushed ≡ before) × (later ≡ faults)

-- how a run of the script alone ends before its END: with its cause, as any script
abbrev pub EndsEarly : ℕ → Books → ℕ → ℕ → RunEnd → Type 0
EndsEarly stripes books start count end = (calls : List Made) × (w : Outside)
    × Ends (setting stripes) books calls end (record { left = Some (generated start count); reads = 0; written = None; writes = 0 }) w × (w.writes ≡ 0) × (w.reads ≡ 0)

-- the counts are written and flushed; or a fault was counted, and a first part of them is written; or there was no memory; or a call was refused, with its cause
abbrev pub Loads : ℕ → Books → ℕ → ℕ → RunEnd → Option (List ℕ) → Option (List ℕ) → Bool → Bool → ℕ → ℕ → Type 0
Loads stripes books start count ends.Done was now before flushed faults later = (c : Totals) × Counted stripes books start count c × IsWritten (summary c) was now faults later × (flushed ≡ true)
Loads stripes books start count ends.WriteFault was now before flushed faults later = (c : Totals) × Counted stripes books start count c × IsCutShort (summary c) was now faults later
Loads stripes books start count ends.NoMemory was now before flushed faults later = IsUnwritten was now before flushed faults later
Loads stripes books start count end was now before flushed faults later = EndsEarly stripes books start count end × IsUnwritten was now before flushed faults later

-- the script has run and was counted; or it ended before its END, with its cause
abbrev pub RunsCounted : ℕ → Books → ℕ → ℕ → Result Totals RunEnd → Type 0
RunsCounted stripes books start count (Ok c) = Counted stripes books start count c
RunsCounted stripes books start count (Err ends.Done) = ⊥
RunsCounted stripes books start count (Err ends.NoMemory) = Unit {0}
RunsCounted stripes books start count (Err end) = EndsEarly stripes books start count end

-- a text is written and flushed; or a fault was counted, and a first part of it is written
abbrev pub Tells : RunEnd → List ℕ → Option (List ℕ) → Option (List ℕ) → Bool → ℕ → ℕ → Type 0
Tells ends.Done text was now flushed before after = IsWritten text was now before after × (flushed ≡ true)
Tells ends.WriteFault text was now flushed before after = IsCutShort text was now before after
Tells end text was now flushed before after = ⊥

-- the same, by whether it was done
abbrev pub WritesLine : Bool → List ℕ → Option (List ℕ) → Option (List ℕ) → Bool → ℕ → ℕ → Type 0
WritesLine true text was now flushed before after = IsWritten text was now before after × (flushed ≡ true)
WritesLine false text was now flushed before after = IsCutShort text was now before after
