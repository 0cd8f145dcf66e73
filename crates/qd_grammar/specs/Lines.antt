-- What a line is in a mode, a state and under a scheme: it is skipped, it spells an item, or it has a fault.
use Rattle.std.specs.Prelude.{ℕ, ◌≡◌, ◌+◌, ◌==◌, ◌||◌, ◌&&◌, if◌then◌else◌, List, [], ◌∷◌, length, codes, nat_lt, Bool, true, false, Option, Some, None, Result, Ok, Err, slice_index, nat_eq}
use Rattle.std.specs.Cmp.Lexicographic.{pointwise}
use Rattle.qd_scheme.specs.declared.defs.RecordDef.{RecordDef}
use Rattle.qd_grammar.specs.declared.fault.Fault.{Fault}
use Rattle.qd_grammar.specs.declared.state.State.{State}
use Rattle.qd_grammar.specs.declared.item.Mode.{Mode}
use Rattle.qd_grammar.specs.declared.item.Item.{Item}
use Rattle.qd_grammar.specs.declared.item.Item.TheVariants.{Protocol, Head, Describe, Rec, Ev, Sub, HistSub, Lost, Heartbeat, End, Time, Link, Take, Node, At, Pump, Move}
use Rattle.qd_grammar.specs.declared.fault.Why.{Why}
use Rattle.qd_grammar.specs.declared.fault.Why.TheVariants.{Order}
use Rattle.qd_grammar.specs.Parts.{Part, parts_of, fault, ◌>>=◌}
use Rattle.qd_grammar.specs.Body.{body_line}
use Rattle.qd_grammar.specs.Control.{control_line, protocol_line, describe_line, in_order}

-- the state before the first line
abbrev pub first_state : State
first_state = record { started = false; message = None; time = 0 }

-- the state that an accepted line leaves
abbrev pub after : Item → State → State
after Protocol s = record s { started = true }
after (Head message) s = record s { message = Some message }
after (Time ms) s = record s { time = ms }
after (Describe rec) s = s
after (Rec r) s = s
after (Ev e) s = s
after (Sub key) s = s
after (HistSub sub) s = s
after (Lost key n) s = s
after Heartbeat s = s
after End s = s
after (Link n) s = s
after (Take c n) s = s
after (Node n m) s = s
after (At n m) s = s
after (Pump n) s = s
after (Move n way b) s = s

-- empty lines and comments
abbrev pub is_skipped : List ℕ → Bool
is_skipped line = (length line == 0) || (slice_index line 0 == 35)

-- control lines begin with two `=`
abbrev pub is_control : List ℕ → Bool
is_control line = (nat_lt 1 (length line) && (slice_index line 0 == 61)) && (slice_index line 1 == 61)

-- descriptions of records begin with one
abbrev pub is_description : List ℕ → Bool
is_description line = nat_lt 0 (length line) && (slice_index line 0 == 61)

-- a line behind PROTOCOL
abbrev pub later_line : Mode → State → List RecordDef → List ℕ → Part → List Part → Result Item Fault
later_line mode s defs line first parts =
    let end = length line + 1 in
    if is_control line then control_line mode s end first parts else
    if is_description line then describe_line defs end first parts else
    body_line s defs end (first ∷ parts)

-- the first line: PROTOCOL alone
abbrev pub first_line : ℕ → Part → List Part → Result Item Fault
first_line end first parts = do
  _ ← in_order (pointwise nat_eq first.bytes (codes "==PROTOCOL"))
  protocol_line end parts

-- the same, over the line's parts, of which there is always one
abbrev pub judged_parts : Mode → State → List RecordDef → List ℕ → List Part → Result Item Fault
judged_parts mode s defs line [] = fault 1 Order
judged_parts mode s defs line (first ∷ parts) = if s.started then later_line mode s defs line first parts else first_line (length line + 1) first parts

-- the item or the fault of a line that is not skipped
unfoldable pub item_of : Mode → State → List RecordDef → List ℕ → Result Item Fault
item_of mode s defs line = judged_parts mode s defs line (parts_of line)

-- None where the line is skipped, else its item or its fault
abbrev pub answer_of : Mode → State → List RecordDef → List ℕ → Result (Option Item) Fault
answer_of mode s defs line = if is_skipped line then Ok None else item_of mode s defs line >>= λ item. Ok (Some item)

-- the three things that a line may be
abbrev pub IsSkipped : List ℕ → Type 0
IsSkipped line = is_skipped line ≡ true

pub record Spells (mode : Mode) (s : State) (defs : List RecordDef) (line : List ℕ) (item : Item) : Type 0 where
  pub counts : is_skipped line ≡ false
  pub judged : item_of mode s defs line ≡ Ok item

pub record HasFault (mode : Mode) (s : State) (defs : List RecordDef) (line : List ℕ) (place : ℕ) (why : Why) : Type 0 where
  pub counts : is_skipped line ≡ false
  pub judged : item_of mode s defs line ≡ Err (record { place = place; why = why })
