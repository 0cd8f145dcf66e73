-- The steps in which lines are read: what each line does with what one of its parts gave.
use Rattle.std.proofs.Common.{ℕ, ◌-◌, ◌^◌, true, false, cond, List}
use Rattle.std.specs.Prelude.{nat_lt, slice_get, Result, Ok}
use lib.IntN.{ℤ}
use Rattle.qd_scheme.specs.declared.defs.RecordDef.{RecordDef}
use Rattle.qd_scheme.specs.declared.defs.FieldKind.{FieldKind}
use Rattle.qd_scheme.specs.declared.key.Key.{Key}
use Rattle.qd_grammar.specs.declared.fault.Fault.{Fault}
use Rattle.qd_grammar.specs.declared.state.State.{State}
use Rattle.qd_grammar.specs.declared.item.Collector.{Collector}
use Rattle.qd_grammar.specs.declared.item.Way.{Way}
use Rattle.qd_grammar.specs.declared.item.Mode.{Mode}
use Rattle.qd_grammar.specs.declared.item.Item.{Item}
use Rattle.qd_grammar.specs.declared.item.Item.TheVariants.{Describe, Rec, Ev, Sub, HistSub, Lost, Time, Take, Move}
use Rattle.qd_grammar.specs.declared.word.Word.{Word}
use Rattle.qd_grammar.specs.Parts.{Part, no_part, ◌>>=◌}
use Rattle.qd_grammar.specs.Words.{ways_by_name}
use Rattle.qd_grammar.specs.Fields.{cells_at, count_at, flags_at, loss_at, word_at}
use Rattle.qd_grammar.specs.Body.{kinds_at}
use Rattle.qd_grammar.specs.Control.{alone, number_at, in_order, behind_word, may_come, description_at, same_parts}

-- body lines

abbrev pub cells_done : (List ℤ → Item) → ℕ → List ℤ × List Part → Result Item Fault
cells_done item q cells = no_part q cells.1 >>= λ u. Ok (item cells.0)

abbrev pub kinds_of_rec : List RecordDef → ℕ → List FieldKind
kinds_of_rec defs rec = kinds_at (slice_get defs rec)

abbrev pub record_item : Key → List ℤ → Item
record_item key values = Rec (record { key = key; cells = values })

abbrev pub record_cells : List RecordDef → ℕ → Key × List Part → Result Item Fault
record_cells defs q key = cells_at (kinds_of_rec defs key.0.rec) q key.1 >>= cells_done (record_item key.0) q

abbrev pub event_item : Key → ℕ → ℕ → List ℤ → Item
event_item key index flags values = Ev (record { key = key; index = index; flags = flags; cells = values })

abbrev pub event_cells : List RecordDef → ℕ → Key → ℕ → ℕ × List Part → Result Item Fault
event_cells defs q key index flags = cells_at (kinds_of_rec defs key.rec) q flags.1 >>= cells_done (event_item key index flags.0) q

abbrev pub event_flags : List RecordDef → ℕ → Key → ℕ × List Part → Result Item Fault
event_flags defs q key index = flags_at q index.1 >>= event_cells defs q key index.0

abbrev pub event_index : List RecordDef → ℕ → Key × List Part → Result Item Fault
event_index defs q key = count_at (2 ^ 63 - 1) q key.1 >>= event_flags defs q key.0

abbrev pub sub_done : ℕ → Key × List Part → Result Item Fault
sub_done q key = no_part q key.1 >>= λ u. Ok (Sub key.0)

abbrev pub number_done : (Key → ℕ → Item) → ℕ → Key → ℕ × List Part → Result Item Fault
number_done item q key n = no_part q n.1 >>= λ u. Ok (item key n.0)

abbrev pub hist_sub_item : Key → ℕ → Item
hist_sub_item key limit = HistSub (record { key = key; limit = limit })

abbrev pub hist_sub_limit : ℕ → Key × List Part → Result Item Fault
hist_sub_limit q key = count_at (2 ^ 63 - 1) q key.1 >>= number_done hist_sub_item q key.0

abbrev pub lost_count : ℕ → Key × List Part → Result Item Fault
lost_count q key = loss_at q key.1 >>= number_done Lost q key.0

-- control lines and descriptions

abbrev pub one_done : (ℕ → Item) → ℕ → ℕ × List Part → Result Item Fault
one_done f q n = alone (f n.0) q n.1

abbrev pub two_second : (ℕ → ℕ → Item) → ℕ → ℕ × List Part → Result Item Fault
two_second f q n = number_at q n.1 >>= one_done (f n.0) q

abbrev pub time_order : State → ℕ → Result (Unit {0}) Fault
time_order s ms = in_order (cond (nat_lt ms s.time) false true)

abbrev pub time_done : ℕ → ℕ × List Part → Unit {0} → Result Item Fault
time_done q ms u = alone (Time ms.0) q ms.1

abbrev pub time_second : State → ℕ → ℕ × List Part → Result Item Fault
time_second s q ms = time_order s ms.0 >>= time_done q ms

abbrev pub take_second : ℕ → Collector × List Part → Result Item Fault
take_second q c = number_at q c.1 >>= one_done (Take c.0) q

abbrev pub move_third : ℕ → ℕ → Way × List Part → Result Item Fault
move_third q n way = number_at q way.1 >>= one_done (Move n way.0) q

abbrev pub move_second : ℕ → ℕ × List Part → Result Item Fault
move_second q n = word_at ways_by_name q n.1 >>= move_third q n.0

abbrev pub tail_of_word : State → ℕ → List Part → Word → Unit {0} → Result Item Fault
tail_of_word s q rest word u = behind_word word s q rest

abbrev pub from_word : Mode → State → ℕ → List Part → Word → Result Item Fault
from_word mode s q rest word = may_come mode word >>= tail_of_word s q rest word

abbrev pub described : List RecordDef → ℕ → List Part → ℕ → Result (Unit {0}) Fault
described defs q rest rec = same_parts (description_at (slice_get defs rec)) q rest

abbrev pub from_record : List RecordDef → ℕ → List Part → ℕ → Result Item Fault
from_record defs q rest rec = described defs q rest rec >>= λ u. Ok (Describe rec)
