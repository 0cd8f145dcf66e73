-- Which calls the bytes of a link ask for.
use Rattle.std.specs.Prelude.{ℕ, suc, zero, ◌≡◌, ◌⊎◌, if◌then◌else◌, Option, Some, None, List, [], ◌∷◌, ◌++◌, length}
use Rattle.qd_buffer.specs.Filled.{Filled}
use Rattle.qd_buffer.specs.Splitting.{of_stripe}
use Rattle.qd_scheme.specs.declared.defs.RecordDef.{RecordDef}
use Rattle.qd_scheme.specs.declared.key.Key.{Key}
use Rattle.qd_sub.specs.declared.op.Op.TheVariants.{Add, Remove, Put}
use Rattle.qd_stream.specs.Items.{key_of_item}
use Rattle.qd_grammar.specs.declared.item.Item.{Item}
use Rattle.qd_grammar.specs.declared.item.Item.TheVariants as items
use Rattle.qd_grammar.specs.declared.item.Message.{Message}
use Rattle.qd_grammar.specs.declared.item.Message.TheVariants.{TickerData, StreamData, HistoryData, StreamLost, TickerAdd, StreamAdd, HistoryAdd, TickerRemove, StreamRemove, HistoryRemove}
use Rattle.qd_grammar.specs.declared.item.Mode.{Mode}
use Rattle.qd_grammar.specs.declared.item.Mode.TheVariants as modes
use Rattle.qd_items.specs.Judging.{Numbered, items_of, stop_of, NoneBehind}
use Rattle.qd_items.specs.Judging.Stop.{Open}
use Rattle.qd_items.specs.Standing.{IsTaken}
use Rattle.qd_line.specs.Cutter.{IsHungry, IsTooLong}
use Rattle.qd_path.specs.declared.call.Asked.{Asked}
use Rattle.qd_path.specs.declared.call.Call.{Call}
use Rattle.qd_path.specs.declared.call.Call.TheVariants.{Ticker, Stream, History}
use Rattle.qd_path.specs.declared.kind.Kind.{Kind}
use Rattle.qd_path.specs.declared.kind.Kind.TheVariants.{Body, Description, Control}
use Rattle.qd_path.specs.declared.side.Side.{Side}
use Rattle.qd_path.specs.declared.side.Side.TheVariants.{Down, Up}
use Rattle.qd_path.specs.Groups.{Group, no_group, group_with, is_full, is_foreign, kind_of}

-- the mode in which the text of a link is read
abbrev pub mode_of : Side → Mode
mode_of (Down agent) = modes.Down
mode_of (Up watcher) = modes.Up

-- whose the subscriptions of a link are; of a link to a peer above there are none
abbrev pub agent_of : Side → ℕ
agent_of (Down agent) = agent
agent_of (Up watcher) = 0

-- a buffer that is full
abbrev pub full_of : {X : Type 0} → List X → Filled X
full_of items = record { items = items; room = length items }

-- one call of a stripe with these items, if there are any
abbrev pub asks : {X : Type 0} → (Filled X → Call) → ℕ → List X → List Asked
asks call stripe [] = []
asks call stripe (x ∷ xs) = record { stripe = stripe; call = call (full_of (x ∷ xs)) } ∷ []

-- the calls of the first k of n stripes, in rising order: each stripe that has items is asked once, with its items in order
abbrev pub asks_up_to : {X : Type 0} → (X → Key) → (Filled X → Call) → ℕ → List X → ℕ → List Asked
asks_up_to key call n xs zero = []
asks_up_to key call n xs (suc k) = asks_up_to key call n xs k ++ asks call k (of_stripe key n k xs)

-- the calls of all n stripes
abbrev pub asks_all : {X : Type 0} → (X → Key) → (Filled X → Call) → ℕ → List X → List Asked
asks_all key call n xs = asks_up_to key call n xs n

-- the calls of a group: those of its message, for the agent, cut by stripe
abbrev pub calls_of : ℕ → ℕ → Option Message → Group → List Asked
calls_of n agent (Some TickerData) g = asks_all (λ r. r.key) (λ part. Ticker (Put part)) n g.records
calls_of n agent (Some StreamData) g = asks_all key_of_item (λ part. Stream (Put part)) n g.items
calls_of n agent (Some StreamLost) g = asks_all key_of_item (λ part. Stream (Put part)) n g.items
calls_of n agent (Some HistoryData) g = asks_all (λ e. e.key) (λ part. History (Put part)) n g.events
calls_of n agent (Some TickerAdd) g = asks_all (λ s. s.key) (λ part. Ticker (Add agent part)) n g.subs
calls_of n agent (Some StreamAdd) g = asks_all (λ s. s.key) (λ part. Stream (Add agent part)) n g.subs
calls_of n agent (Some HistoryAdd) g = asks_all (λ s. s.key) (λ part. History (Add agent part)) n g.subs
calls_of n agent (Some TickerRemove) g = asks_all (λ k. k) (λ part. Ticker (Remove agent part)) n g.keys
calls_of n agent (Some StreamRemove) g = asks_all (λ k. k) (λ part. Stream (Remove agent part)) n g.keys
calls_of n agent (Some HistoryRemove) g = asks_all (λ k. k) (λ part. History (Remove agent part)) n g.keys
calls_of n agent None g = []

-- where the text of a link stands: its current message, and the open group
pub record Place : Type 0 where
  pub message : Option Message
  pub group : Group

abbrev pub beginning : Place
beginning = record { message = None; group = no_group }

-- a full group ends at once
abbrev pub joined_by : Item → Place → Place
joined_by item p =
    let g = group_with p.message item p.group in
    record { message = p.message; group = if is_full g then no_group else g }

-- the message behind a line that ends a group
abbrev pub message_after : Item → Option Message → Option Message
message_after (items.Head m) message = Some m
message_after _ message = message

abbrev pub after_kind : Kind → Item → Place → Place
after_kind Body item p = if is_foreign p.message item then p else joined_by item p
after_kind Description item p = p
after_kind Control item p = record { message = message_after item p.message; group = no_group }

-- where an item leads
abbrev pub after : Item → Place → Place
after item p = after_kind (kind_of item) item p

abbrev pub full_calls : ℕ → ℕ → Option Message → Group → List Asked
full_calls n agent message g = if is_full g then calls_of n agent message g else []

abbrev pub calls_by : Kind → ℕ → ℕ → Item → Place → List Asked
calls_by Body n agent item p = if is_foreign p.message item then [] else full_calls n agent p.message (group_with p.message item p.group)
calls_by Description n agent item p = []
calls_by Control n agent item p = calls_of n agent p.message p.group

-- the calls of the group that an item ends, if it ends one
abbrev pub calls_with : ℕ → ℕ → Item → Place → List Asked
calls_with n agent item p = calls_by (kind_of item) n agent item p

-- where items lead, the newest first
abbrev pub place_of : List Numbered → Place
place_of [] = beginning
place_of (x ∷ before) = after x.item (place_of before)

-- all calls that items ask for, in order; the items stand with the newest first
abbrev pub calls_of_items : ℕ → ℕ → List Numbered → List Asked
calls_of_items n agent [] = []
calls_of_items n agent (x ∷ before) = calls_of_items n agent before ++ calls_with n agent x.item (place_of before)

-- all calls that lines ask for, the newest line first, of a link of this side to a hub of so many stripes
abbrev pub calls : List RecordDef → Side → ℕ → List (List ℕ) → List Asked
calls defs side n lines = calls_of_items n (agent_of side) (items_of (mode_of side) defs lines)

-- the lines of bytes that are judged, the newest first: all whole ones, up to the first that stops; the rest follows them
pub record AreJudged (mode : Mode) (defs : List RecordDef) (bytes : List ℕ) (lines : List (List ℕ)) (rest : List ℕ) : Type 0 where
  pub taken : IsTaken (record { taken = bytes; lines = lines }) rest
  pub last : NoneBehind mode defs lines
  pub whole : stop_of mode defs lines ≡ Open → IsHungry rest ⊎ IsTooLong rest

-- bytes ask for these calls, of a link of this side to a hub of so many stripes
abbrev pub AskFor : List RecordDef → Side → ℕ → List ℕ → List Asked → Type 0
AskFor defs side n bytes asked = (lines : List (List ℕ)) × (rest : List ℕ) × AreJudged (mode_of side) defs bytes lines rest × (asked ≡ calls defs side n lines)
