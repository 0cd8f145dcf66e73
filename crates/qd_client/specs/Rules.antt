-- What a run makes of the items of its text: what each of them prints, and which one ends the run.
use Rattle.std.specs.Prelude.{ℕ, ◌≡◌, ◌||◌, nat_eq, Bool, true, false, if◌then◌else◌, Option, Some, None, List, [], ◌∷◌, ◌++◌, length}
use Rattle.qd_grammar.specs.declared.item.Item.{Item}
use Rattle.qd_grammar.specs.declared.item.Item.TheVariants.{Rec, Ev, Lost, Time, Link, Take, Node, At, Pump, Move}
use Rattle.qd_grammar.specs.declared.item.Message.{Message}
use Rattle.qd_grammar.specs.declared.item.Mode.{Mode}
use Rattle.qd_grammar.specs.declared.item.Mode.TheVariants.{Up, File}
use Rattle.qd_items.specs.Judging.{Numbered, is_end}
use Rattle.qd_path.specs.Calls.{message_after}
use Rattle.qd_path.specs.Texts.{ReplyItem, head_before, line_of}
use Rattle.qd_scheme.specs.declared.defs.RecordDef.{RecordDef}

-- whose text is read; what an item prints behind those before it, of which the newest stands first; whether the run ends
-- with it
pub record Rule : Type 0 where
  pub mode : Mode
  pub text : List RecordDef → List Numbered → Item → List ℕ
  pub ends : List Numbered → Item → Bool

-- what these items print
abbrev pub printed : Rule → List RecordDef → List Numbered → List ℕ
printed rule defs [] = []
printed rule defs (n ∷ before) = printed rule defs before ++ rule.text defs before n.item

-- END ends the text, and no other item does
abbrev pub ends_with : Rule → List Numbered → Item → Bool
ends_with rule before item = if is_end item then false else rule.ends before item

-- one of these items ends the run
abbrev pub is_over : Rule → List Numbered → Bool
is_over rule [] = false
is_over rule (n ∷ before) = is_over rule before || ends_with rule before n.item

-- the items up to the first one that ends the run
abbrev pub until_over : Rule → List Numbered → List Numbered
until_over rule [] = []
until_over rule (n ∷ before) = if is_over rule before then until_over rule before else n ∷ before

-- what one who is told an item makes of it
pub record Hears (rule : Rule) (defs : List RecordDef) (before : List Numbered) (item : Item) (over : Bool) (line : List ℕ) : Type 0 where
  pub text : line ≡ rule.text defs before item
  pub ends : over ≡ rule.ends before item

-- an item asks for a step of a script
abbrev pub is_step : Item → Bool
is_step (Link n) = true
is_step (Take c n) = true
is_step (Node n m) = true
is_step (At n m) = true
is_step (Pump n) = true
is_step (Move n way b) = true
is_step _ = false

abbrev pub is_time : Item → Bool
is_time (Time ms) = true
is_time _ = false

-- what post sends of an item
abbrev pub post_text : List RecordDef → Item → List ℕ
post_text defs item = if is_step item then [] else (if is_time item then [] else line_of defs item)

-- post: the items of a file, but for its TIME lines, up to one that asks for a step of a script
abbrev pub post_rule : Rule
post_rule = record { mode = File; text = λ defs before item. post_text defs item; ends = λ before item. is_step item }

-- what a collector gives: a record, an event or a Lost item
abbrev pub is_given : Item → Bool
is_given (Rec r) = true
is_given (Ev e) = true
is_given (Lost k n) = true
is_given _ = false

-- the message of the last head
abbrev pub message_of : List Numbered → Option Message
message_of [] = None
message_of (n ∷ before) = message_after n.item (message_of before)

-- an item of a message adds to what was given
abbrev pub given_with : Option Message → Item → List ReplyItem → List ReplyItem
given_with None item before = before
given_with (Some message) item before = if is_given item then record { message = message; item = item } ∷ before else before

-- what was given among these items, each with its message, the newest first
abbrev pub given_of : List Numbered → List ReplyItem
given_of [] = []
given_of (n ∷ before) = given_with (message_of before) n.item (given_of before)

abbrev pub last_message : List ReplyItem → Option Message
last_message [] = None
last_message (x ∷ before) = Some x.message

-- the line of an item, behind the head of its message where the item before it has another
abbrev pub shown_text : List RecordDef → Option Message → Message → Item → List ℕ
shown_text defs last message item = head_before defs last message ++ line_of defs item

abbrev pub dump_text : List RecordDef → Option Message → Option Message → Item → List ℕ
dump_text defs last None item = []
dump_text defs last (Some message) item = if is_given item then shown_text defs last message item else []

-- dump: what a peer above gives, with heads as in one reply, up to as many items as were asked for
abbrev pub dump_rule : ℕ → Rule
dump_rule count = record {
  mode = Up;
  text = λ defs before item. dump_text defs (last_message (given_of before)) (message_of before) item;
  ends = λ before item. nat_eq (length (given_with (message_of before) item (given_of before))) count;
}
