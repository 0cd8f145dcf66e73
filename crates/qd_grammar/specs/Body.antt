-- What a body line says under each message.
use Rattle.std.specs.Prelude.{ℕ, ◌-◌, ◌^◌, List, Bool, true, false, [], map, Option, Some, None, Result, Ok, slice_get}
use Rattle.qd_scheme.specs.declared.defs.RecordDef.{RecordDef}
use Rattle.qd_scheme.specs.declared.defs.FieldDef.{FieldDef}
use Rattle.qd_scheme.specs.declared.defs.FieldKind.{FieldKind}
use Rattle.qd_scheme.specs.declared.key.Key.{Key}
use Rattle.qd_grammar.specs.declared.fault.Fault.{Fault}
use Rattle.qd_grammar.specs.declared.fault.Why.TheVariants.{Order}
use Rattle.qd_grammar.specs.declared.state.State.{State}
use Rattle.qd_grammar.specs.declared.item.Item.{Item}
use Rattle.qd_grammar.specs.declared.item.Item.TheVariants.{Rec, Ev, Sub, HistSub, Lost}
use Rattle.qd_grammar.specs.declared.item.Message.{Message}
use Rattle.qd_grammar.specs.declared.item.Message.TheVariants.{TickerData, StreamData, HistoryData, StreamLost, TickerAdd, StreamAdd, HistoryAdd, TickerRemove, StreamRemove, HistoryRemove}
use Rattle.qd_grammar.specs.Parts.{Part, Reads, no_part, fault, ◌>>=◌}
use Rattle.qd_grammar.specs.Fields.{record_at, symbol_at, cells_at, count_at, flags_at, loss_at}

abbrev pub kinds_of : List FieldDef → List FieldKind
kinds_of = map (λ field. field.kind)

-- the kinds of a record's fields
abbrev pub kinds_at : Option RecordDef → List FieldKind
kinds_at None = []
kinds_at (Some def) = kinds_of def.fields

unfoldable pub key_at : Bool → List RecordDef → Reads Key
key_at hist defs end parts = do
  rec ← record_at hist defs end parts
  sym ← symbol_at end rec.1
  Ok (record { rec = rec.0; sym = sym.0 }, sym.1)

unfoldable pub record_line : List RecordDef → ℕ → List Part → Result Item Fault
record_line defs end parts = do
  key ← key_at false defs end parts
  cells ← cells_at (kinds_at (slice_get defs key.0.rec)) end key.1
  _ ← no_part end cells.1
  Ok (Rec (record { key = key.0; cells = cells.0 }))

unfoldable pub event_line : List RecordDef → ℕ → List Part → Result Item Fault
event_line defs end parts = do
  key ← key_at true defs end parts
  index ← count_at (2 ^ 63 - 1) end key.1
  flags ← flags_at end index.1
  cells ← cells_at (kinds_at (slice_get defs key.0.rec)) end flags.1
  _ ← no_part end cells.1
  Ok (Ev (record { key = key.0; index = index.0; flags = flags.0; cells = cells.0 }))

unfoldable pub sub_line : Bool → List RecordDef → ℕ → List Part → Result Item Fault
sub_line hist defs end parts = do
  key ← key_at hist defs end parts
  _ ← no_part end key.1
  Ok (Sub key.0)

unfoldable pub hist_sub_line : List RecordDef → ℕ → List Part → Result Item Fault
hist_sub_line defs end parts = do
  key ← key_at true defs end parts
  limit ← count_at (2 ^ 63 - 1) end key.1
  _ ← no_part end limit.1
  Ok (HistSub (record { key = key.0; limit = limit.0 }))

unfoldable pub lost_line : List RecordDef → ℕ → List Part → Result Item Fault
lost_line defs end parts = do
  key ← key_at false defs end parts
  count ← loss_at end key.1
  _ ← no_part end count.1
  Ok (Lost key.0 count.0)

-- a line under a message
abbrev pub message_line : List RecordDef → Message → ℕ → List Part → Result Item Fault
message_line defs TickerData end parts = record_line defs end parts
message_line defs StreamData end parts = record_line defs end parts
message_line defs HistoryData end parts = event_line defs end parts
message_line defs StreamLost end parts = lost_line defs end parts
message_line defs TickerAdd end parts = sub_line false defs end parts
message_line defs StreamAdd end parts = sub_line false defs end parts
message_line defs HistoryAdd end parts = hist_sub_line defs end parts
message_line defs TickerRemove end parts = sub_line false defs end parts
message_line defs StreamRemove end parts = sub_line false defs end parts
message_line defs HistoryRemove end parts = sub_line true defs end parts

abbrev pub line_under : Option Message → List RecordDef → ℕ → List Part → Result Item Fault
line_under None defs end parts = fault 1 Order
line_under (Some message) defs end parts = message_line defs message end parts

-- a body line belongs to the current message, without which it may not stand
abbrev pub body_line : State → List RecordDef → ℕ → List Part → Result Item Fault
body_line s defs end parts = line_under s.message defs end parts
