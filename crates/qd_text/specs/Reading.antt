-- What a reader keeps and tells.
use Rattle.std.specs.Prelude.{ℕ, Bool, true, false, Option, Some, None, Result, Ok, Err}
use Rattle.qd_grammar.specs.declared.fault.Fault.{Fault}
use Rattle.qd_grammar.specs.declared.item.Item.{Item}
use Rattle.qd_grammar.specs.declared.item.Mode.{Mode}
use Rattle.qd_grammar.specs.declared.state.State.{State}
use Rattle.qd_grammar.specs.Lines.{after}
use Rattle.qd_text.specs.declared.reader.BadLine.{BadLine}

-- a reader: whose text it reads, what the lines so far tell of the next one, and how many they are
pub record Reading : Type 0 where
  pub mode : Mode
  pub state : State
  pub lines : ℕ

-- a fault, told with the number of its line
abbrev pub told : ℕ → Result (Option Item) Fault → Result (Option Item) BadLine
told line (Ok item) = Ok item
told line (Err f) = Err (record { line = line; place = f.place; why = f.why })

-- the answer that says whether there is an item, with the item
abbrev pub with_item : Result Bool BadLine → Item → Result (Option Item) BadLine
with_item (Ok true) item = Ok (Some item)
with_item (Ok false) item = Ok None
with_item (Err bad) item = Err bad

-- the state behind a line: another one only where the line spells an item
abbrev pub state_after : Result (Option Item) Fault → State → State
state_after (Ok (Some item)) s = after item s
state_after (Ok None) s = s
state_after (Err f) s = s
