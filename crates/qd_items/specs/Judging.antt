-- What the lines of a text say, one after another: the state that they leave, their items, and where they stop.
use Rattle.std.specs.Prelude.{ℕ, ◌≡◌, ◌⊎◌, if◌then◌else◌, Bool, true, false, Option, Some, None, Result, Ok, Err, List, [], ◌∷◌, length}
use Rattle.qd_grammar.specs.declared.fault.Fault.{Fault}
use Rattle.qd_grammar.specs.declared.item.Item.{Item}
use Rattle.qd_grammar.specs.declared.item.Item.TheVariants.{Protocol, Head, Describe, Rec, Ev, Sub, HistSub, Lost, Heartbeat, End, Time, Link, Take, Node, At, Pump, Move}
use Rattle.qd_grammar.specs.declared.item.Mode.{Mode}
use Rattle.qd_grammar.specs.declared.state.State.{State}
use Rattle.qd_grammar.specs.Lines.{answer_of, first_state}
use Rattle.qd_line.specs.Lines.{without_cr}
use Rattle.qd_scheme.specs.declared.defs.RecordDef.{RecordDef}
use Rattle.qd_text.specs.declared.reader.BadLine.{BadLine}
use Rattle.qd_text.specs.Reading.{state_after}

-- what a line says in a state: nothing where it is skipped, an item, or a fault; a line is what stands before a line feed
abbrev pub said : Mode → List RecordDef → State → List ℕ → Result (Option Item) Fault
said mode defs s line = answer_of mode s defs (without_cr line)

-- the state that these lines leave, the newest first
abbrev pub state_of : Mode → List RecordDef → List (List ℕ) → State
state_of mode defs [] = first_state
state_of mode defs (line ∷ before) = state_after (said mode defs (state_of mode defs before) line) (state_of mode defs before)

-- an item with the number of its line, from 1
pub record Numbered : Type 0 where
  pub line : ℕ
  pub item : Item

-- what a line of this number adds to the items
abbrev pub with_said : ℕ → Result (Option Item) Fault → List Numbered → List Numbered
with_said n (Ok (Some item)) items = record { line = n; item = item } ∷ items
with_said n (Ok None) items = items
with_said n (Err f) items = items

-- the items of these lines, the newest first
abbrev pub items_of : Mode → List RecordDef → List (List ℕ) → List Numbered
items_of mode defs [] = []
items_of mode defs (line ∷ before) = with_said (length (line ∷ before)) (said mode defs (state_of mode defs before) line) (items_of mode defs before)

abbrev pub is_end : Item → Bool
is_end End = true
is_end Protocol = false
is_end (Head message) = false
is_end (Describe rec) = false
is_end (Rec r) = false
is_end (Ev e) = false
is_end (Sub key) = false
is_end (HistSub sub) = false
is_end (Lost key n) = false
is_end Heartbeat = false
is_end (Time ms) = false
is_end (Link n) = false
is_end (Take c n) = false
is_end (Node n m) = false
is_end (At n m) = false
is_end (Pump n) = false
is_end (Move n way b) = false

-- where lines stop: nowhere yet, at the line of this number that spells END, or at a line that is refused
pub data Stop : Type 0 where
  Open : Stop
  AtEnd : ℕ → Stop
  AtBad : BadLine → Stop

-- where a line of this number stops by what it says
abbrev pub stop_with : ℕ → Result (Option Item) Fault → Stop
stop_with n (Ok (Some item)) = if is_end item then AtEnd n else Open
stop_with n (Ok None) = Open
stop_with n (Err f) = AtBad (record { line = n; place = f.place; why = f.why })

-- the first stop, else that of the newest line
abbrev pub or_first : Stop → Stop → Stop
or_first Open next = next
or_first (AtEnd n) next = AtEnd n
or_first (AtBad b) next = AtBad b

-- where these lines stop first
abbrev pub stop_of : Mode → List RecordDef → List (List ℕ) → Stop
stop_of mode defs [] = Open
stop_of mode defs (line ∷ before) = or_first (stop_of mode defs before) (stop_with (length (line ∷ before)) (said mode defs (state_of mode defs before) line))

-- it is the line of this number that stops
abbrev pub StopsAt : Stop → ℕ → Type 0
StopsAt Open line = ⊥
StopsAt (AtEnd n) line = n ≡ line
StopsAt (AtBad bad) line = bad.line ≡ line

-- no line stands behind one that stops
abbrev pub NoneBehind : Mode → List RecordDef → List (List ℕ) → Type 0
NoneBehind mode defs lines = (stop_of mode defs lines ≡ Open) ⊎ StopsAt (stop_of mode defs lines) (length lines)
