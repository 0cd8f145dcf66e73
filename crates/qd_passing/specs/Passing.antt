-- Which items the calls of a text put, beside those that its lines say.
use Rattle.std.specs.Prelude.{ℕ, ◌≡◌, ◌<◌, if◌then◌else◌, Option, List, [], ◌∷◌, ◌++◌}
use Rattle.std.specs.List.{filter}
use Rattle.qd_scheme.specs.declared.defs.RecordDef.{RecordDef}
use Rattle.qd_scheme.specs.declared.key.Event.{Event}
use Rattle.qd_scheme.specs.declared.key.Key.{Key}
use Rattle.qd_scheme.specs.declared.key.Record.{Record}
use Rattle.qd_scheme.specs.Keys.{key_eq}
use Rattle.qd_sub.specs.declared.op.Op.{Op}
use Rattle.qd_sub.specs.declared.op.Op.TheVariants.{Add, Remove, Close, Put, Take, Watch}
use Rattle.qd_stream.specs.declared.item.StreamItem.{StreamItem}
use Rattle.qd_stream.specs.declared.item.StreamItem.TheVariants as stream_items
use Rattle.qd_stream.specs.Items.{key_of_item}
use Rattle.qd_grammar.specs.declared.item.Item.{Item}
use Rattle.qd_grammar.specs.declared.item.Item.TheVariants as items
use Rattle.qd_grammar.specs.declared.item.Message.{Message}
use Rattle.qd_items.specs.Judging.{Numbered, items_of}
use Rattle.qd_path.specs.declared.call.Asked.{Asked}
use Rattle.qd_path.specs.declared.call.Call.{Call}
use Rattle.qd_path.specs.declared.call.Call.TheVariants as kinds
use Rattle.qd_path.specs.declared.side.Side.TheVariants.{Up}
use Rattle.qd_path.specs.Groups.{is_putting, is_streaming, is_foreign}
use Rattle.qd_path.specs.Calls.{calls, mode_of, place_of}

-- the items that an op puts
abbrev pub put_by : {P T : Type 0} → Op P T → List P
put_by (Put items) = items.items
put_by (Add agent subs) = []
put_by (Remove agent keys) = []
put_by (Close agent) = []
put_by (Take agent most out) = []
put_by (Watch watcher most out) = []

-- the records, items and events that a call puts
abbrev pub records_in : Call → List Record
records_in (kinds.Ticker op) = put_by op
records_in (kinds.Stream op) = []
records_in (kinds.History op) = []

abbrev pub items_in : Call → List StreamItem
items_in (kinds.Ticker op) = []
items_in (kinds.Stream op) = put_by op
items_in (kinds.History op) = []

abbrev pub events_in : Call → List Event
events_in (kinds.Ticker op) = []
events_in (kinds.Stream op) = []
events_in (kinds.History op) = put_by op

-- what a line says under a message, where it is not foreign to it: a record of the ticker, an item of the stream, an event of the history
abbrev pub record_said : Option Message → Item → List Record
record_said message (items.Rec r) = if is_putting message then r ∷ [] else []
record_said message _ = []

abbrev pub item_said : Option Message → Item → List StreamItem
item_said message (items.Rec r) = if is_streaming message then stream_items.Rec r ∷ [] else []
item_said message (items.Lost k count) = if is_foreign message (items.Lost k count) then [] else stream_items.Lost k count ∷ []
item_said message _ = []

abbrev pub event_said : Option Message → Item → List Event
event_said message (items.Ev e) = if is_foreign message (items.Ev e) then [] else e ∷ []
event_said message _ = []

module _ {X : Type 0} (key : X → Key) where
  -- those of k among these
  abbrev pub only : Key → List X → List X
  only k xs = filter (λ x. key_eq k (key x)) xs

  -- what calls put of k, in order
  abbrev pub put_in : (Call → List X) → Key → List Asked → List X
  put_in part k [] = []
  put_in part k (asked ∷ more) = only k (part asked.call) ++ put_in part k more

  -- what items say of k, in order; the newest item stands first
  abbrev pub said_in : (Option Message → Item → List X) → Key → List Numbered → List X
  said_in says k [] = []
  said_in says k (x ∷ before) = said_in says k before ++ only k (says (place_of before).message x.item)

  -- the calls of a text of a peer above put what its lines say of each key, once and in order; what they have not put yet is in the group that is open
  abbrev pub EachPut : (Call → List X) → (Option Message → Item → List X) → Type 0
  EachPut part says = (defs : List RecordDef) (watcher n : ℕ) (lines : List (List ℕ)) (k : Key) → 0 < n
      → (in_group : List X) × (put_in part k (calls defs (Up watcher) n lines) ++ in_group ≡ said_in says k (items_of (mode_of (Up watcher)) defs lines))

-- of the ticker, the stream and the history
abbrev pub RecordsPut : Type 0
RecordsPut = EachPut (λ r. r.key) records_in record_said

abbrev pub ItemsPut : Type 0
ItemsPut = EachPut key_of_item items_in item_said

abbrev pub EventsPut : Type 0
EventsPut = EachPut (λ e. e.key) events_in event_said
