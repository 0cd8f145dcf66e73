-- What a control line and a description say.
use Rattle.std.specs.Prelude.{ℕ, ◌-◌, ◌^◌, ◌&&◌, nat_lt, cond, List, [], ◌∷◌, ◌++◌, map, codes, Bool, true, false, Option, Some, None, Result, Ok, slice_get, drop, nat_eq, decimal}
use Rattle.std.specs.Cmp.Lexicographic.{pointwise}
use Rattle.qd_scheme.specs.declared.defs.RecordDef.{RecordDef}
use Rattle.qd_scheme.specs.declared.defs.FieldDef.{FieldDef}
use Rattle.qd_scheme.specs.Finding.{number_of_record}
use Rattle.qd_scheme.specs.declared.defs.FieldKind.{FieldKind}
use Rattle.qd_scheme.specs.declared.defs.FieldKind.TheVariants.{Int, Dec}
use Rattle.qd_grammar.specs.declared.fault.Fault.{Fault}
use Rattle.qd_grammar.specs.declared.state.State.{State}
use Rattle.qd_grammar.specs.declared.item.Mode.{Mode}
use Rattle.qd_grammar.specs.declared.word.Word.{Word}
use Rattle.qd_grammar.specs.declared.word.Word.TheVariants as w
use Rattle.qd_grammar.specs.declared.item.Item.{Item}
use Rattle.qd_grammar.specs.declared.item.Item.TheVariants.{Protocol, Head, Describe, Heartbeat, End, Time, Link, Take, Node, At, Pump, Move}
use Rattle.qd_grammar.specs.declared.fault.Why.TheVariants.{Form, Order, UnknownRecord, SchemeMismatch}
use Rattle.qd_grammar.specs.Parts.{Part, Reads, no_part, fault, ◌>>=◌}
use Rattle.qd_grammar.specs.Words.{word_of, is_subscription, is_for_file, is_file, is_up, collectors_by_name, ways_by_name}
use Rattle.qd_grammar.specs.Fields.{count_at, word_at, or_fault}

-- numbers in control lines
abbrev pub number_at : Reads ℕ
number_at = count_at (2 ^ 63 - 1)

-- what a word asks of the line behind it: nothing more
abbrev pub alone : Item → ℕ → List Part → Result Item Fault
alone item end parts = no_part end parts >>= λ _. Ok item

abbrev pub one_number : (ℕ → Item) → ℕ → List Part → Result Item Fault
one_number item end parts = do
  n ← number_at end parts
  alone (item n.0) end n.1

abbrev pub two_numbers : (ℕ → ℕ → Item) → ℕ → List Part → Result Item Fault
two_numbers item end parts = do
  n ← number_at end parts
  m ← number_at end n.1
  alone (item n.0 m.0) end m.1

abbrev pub in_order : Bool → Result (Unit {0}) Fault
in_order true = Ok tt
in_order false = fault 1 Order

-- Time never goes back.
abbrev pub time_line : State → ℕ → List Part → Result Item Fault
time_line s end parts = do
  ms ← number_at end parts
  _ ← in_order (cond (nat_lt ms.0 s.time) false true)
  alone (Time ms.0) end ms.1

abbrev pub take_line : ℕ → List Part → Result Item Fault
take_line end parts = do
  collector ← word_at collectors_by_name end parts
  most ← number_at end collector.1
  alone (Take collector.0 most.0) end most.1

abbrev pub move_line : ℕ → List Part → Result Item Fault
move_line end parts = do
  n ← number_at end parts
  way ← word_at ways_by_name end n.1
  bytes ← number_at end way.1
  alone (Move n.0 way.0 bytes.0) end bytes.1

-- The version of the text is a word.
abbrev pub protocol_line : ℕ → List Part → Result Item Fault
protocol_line end parts = do
  version ← word_at {A = Unit {0}} ((codes "1", tt) ∷ []) end parts
  alone Protocol end version.1

-- what stands behind a word
unfoldable pub behind_word : Word → State → ℕ → List Part → Result Item Fault
behind_word w.Protocol s end parts = protocol_line end parts
behind_word (w.Head message) s end parts = alone (Head message) end parts
behind_word w.Heartbeat s end parts = alone Heartbeat end parts
behind_word w.End s end parts = alone End end parts
behind_word w.Time s end parts = time_line s end parts
behind_word w.Link s end parts = one_number Link end parts
behind_word w.Take s end parts = take_line end parts
behind_word w.Node s end parts = two_numbers Node end parts
behind_word w.At s end parts = two_numbers At end parts
behind_word w.Pump s end parts = one_number Pump end parts
behind_word w.Move s end parts = move_line end parts

-- Whether a word may stand here. A second PROTOCOL may not, nor a subscription where the reader stands below.
abbrev pub may_come : Mode → Word → Result (Unit {0}) Fault
may_come mode w.Protocol = fault 1 Order
may_come mode (w.Head message) = in_order (cond (is_up mode && is_subscription message) false true)
may_come mode word = cond (is_for_file word && cond (is_file mode) false true) (fault 3 Form) (Ok tt)

-- a control line behind PROTOCOL
abbrev pub control_line : Mode → State → ℕ → Part → List Part → Result Item Fault
control_line mode s end word parts = do
  known ← or_fault 3 Form (word_of word.bytes)
  _ ← may_come mode known
  behind_word known s end parts

-- the parts of a record's description behind its name
abbrev pub kind_text : FieldKind → List ℕ
kind_text Int = codes "i"
kind_text (Dec scale) = codes "d" ++ decimal scale

abbrev pub field_text : FieldDef → List ℕ
field_text field = (field.name ++ codes ":") ++ kind_text field.kind

abbrev pub description : RecordDef → List (List ℕ)
description def = cond def.hist (codes "*" ∷ []) [] ++ map field_text def.fields

-- the parts are these texts
abbrev pub same_parts : List (List ℕ) → ℕ → List Part → Result (Unit {0}) Fault
same_parts [] end [] = Ok tt
same_parts [] end (part ∷ parts) = fault part.place SchemeMismatch
same_parts (text ∷ texts) end [] = fault end SchemeMismatch
same_parts (text ∷ texts) end (part ∷ parts) = cond (pointwise nat_eq part.bytes text) (same_parts texts end parts) (fault part.place SchemeMismatch)

abbrev pub description_at : Option RecordDef → List (List ℕ)
description_at None = []
description_at (Some def) = description def

unfoldable pub describe_line : List RecordDef → ℕ → Part → List Part → Result Item Fault
describe_line defs end name parts = do
  rec ← or_fault 2 UnknownRecord (number_of_record (drop 1 name.bytes) defs)
  _ ← same_parts (description_at (slice_get defs rec)) end parts
  Ok (Describe rec)
