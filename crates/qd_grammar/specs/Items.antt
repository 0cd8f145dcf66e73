-- What an item is and where it may stand, told of the item itself and not of its line.
use Rattle.std.specs.Prelude.{ℕ, ◌≡◌, ◌≢◌, ◌⊎◌, ◌<◌, ◌≤◌, ◌^◌, bit_and, true, false, List, [], ◌∷◌, length, slice_get, slice_index, Some}
use Rattle.std.specs.List.{AllByRecursion}
use lib.IntN.{ℤ, pos, negsuc}
use Rattle.qd_scheme.specs.declared.defs.RecordDef.{RecordDef}
use Rattle.qd_scheme.specs.declared.defs.FieldDef.{FieldDef}
use Rattle.qd_scheme.specs.declared.key.Key.{Key}
use Rattle.qd_scheme.specs.declared.key.Record.{Record}
use Rattle.qd_scheme.specs.declared.key.Event.{Event}
use Rattle.qd_grammar.specs.declared.state.State.{State}
use Rattle.qd_grammar.specs.declared.item.Mode.{Mode}
use Rattle.qd_grammar.specs.declared.item.Mode.TheVariants as modes
use Rattle.qd_grammar.specs.declared.item.Message.{Message}
use Rattle.qd_grammar.specs.declared.item.Message.TheVariants.{TickerData, StreamData, HistoryData, StreamLost, TickerAdd, StreamAdd, HistoryAdd, TickerRemove, StreamRemove, HistoryRemove}
use Rattle.qd_grammar.specs.declared.item.Item.{Item}
use Rattle.qd_grammar.specs.declared.item.Item.TheVariants.{Protocol, Head, Describe, Rec, Ev, Sub, HistSub, Lost, Heartbeat, End, Time, Link, Take, Node, At, Pump, Move}

-- a number from -2^63 to 2^63 - 1, where negsuc n is -(n + 1)
abbrev pub IsCell : ℤ → Type 0
IsCell (pos n) = n < 2 ^ 63
IsCell (negsuc n) = n < 2 ^ 63

-- one cell for each field
pub record AreCells (fields : List FieldDef) (cells : List ℤ) : Type 0 where
  pub count : length cells ≡ length fields
  pub each : AllByRecursion IsCell cells

-- a byte from `!` to `~`
abbrev pub IsSymbolByte : ℕ → Type 0
IsSymbolByte b = (33 ≤ b) × (b ≤ 126)

-- 1 to 64 such bytes, of which the first is no `=` and no `#`, and that are no single `"`
pub record IsSymbolText (text : List ℕ) : Type 0 where
  pub some : 0 < length text
  pub few : length text ≤ 64
  pub printed : AllByRecursion IsSymbolByte text
  pub no_equals : slice_index text 0 ≢ 61
  pub no_hash : slice_index text 0 ≢ 35
  pub no_quote : text ≢ 34 ∷ []

-- a record of the scheme, by its number, and a symbol
pub record IsKeyOf (defs : List RecordDef) (def : RecordDef) (key : Key) : Type 0 where
  pub declared : slice_get defs key.rec ≡ Some def
  pub symbol : IsSymbolText key.sym

-- a key of any record, and one of a history record
abbrev pub IsKey : List RecordDef → Key → Type 0
IsKey defs key = (def : RecordDef) × IsKeyOf defs def key

abbrev pub IsHistoryKey : List RecordDef → Key → Type 0
IsHistoryKey defs key = (def : RecordDef) × (IsKeyOf defs def key × (def.hist ≡ true))

-- 0 to 255 without the bits 0x20 and 0x80
pub record AreFlags (flags : ℕ) : Type 0 where
  pub few : flags ≤ 255
  pub no_0x20 : bit_and flags 32 ≡ 0
  pub no_0x80 : bit_and flags 128 ≡ 0

pub record IsRecordItem (defs : List RecordDef) (r : Record) : Type 0 where
  pub def : RecordDef
  pub key : IsKeyOf defs def r.key
  pub cells : AreCells def.fields r.cells

-- an event is one of a history record
pub record IsEventItem (defs : List RecordDef) (e : Event) : Type 0 where
  pub def : RecordDef
  pub key : IsKeyOf defs def e.key
  pub history : def.hist ≡ true
  pub index : e.index < 2 ^ 63
  pub flags : AreFlags e.flags
  pub cells : AreCells def.fields e.cells

-- the items under a scheme
abbrev pub IsItem : List RecordDef → Item → Type 0
IsItem defs Protocol = Unit {0}
IsItem defs (Head message) = Unit {0}
IsItem defs (Describe rec) = rec < length defs
IsItem defs (Rec r) = IsRecordItem defs r
IsItem defs (Ev e) = IsEventItem defs e
IsItem defs (Sub key) = IsKey defs key
IsItem defs (HistSub sub) = IsHistoryKey defs sub.key × (sub.limit < 2 ^ 63)
IsItem defs (Lost key n) = IsKey defs key × ((0 < n) × (n < 2 ^ 64))
IsItem defs Heartbeat = Unit {0}
IsItem defs End = Unit {0}
IsItem defs (Time ms) = ms < 2 ^ 63
IsItem defs (Link n) = n < 2 ^ 63
IsItem defs (Take c n) = n < 2 ^ 63
IsItem defs (Node n m) = (n < 2 ^ 63) × (m < 2 ^ 63)
IsItem defs (At n m) = (n < 2 ^ 63) × (m < 2 ^ 63)
IsItem defs (Pump n) = n < 2 ^ 63
IsItem defs (Move n way b) = (n < 2 ^ 63) × (b < 2 ^ 63)

-- one of several messages
abbrev pub IsOneOf : Message → List Message → Type 0
IsOneOf message [] = ⊥
IsOneOf message (x ∷ xs) = (message ≡ x) ⊎ IsOneOf message xs

-- PROTOCOL came
abbrev pub IsStarted : State → Type 0
IsStarted s = s.started ≡ true

-- the current message is one of these
pub record IsUnderOne (s : State) (messages : List Message) : Type 0 where
  pub started : IsStarted s
  pub message : Message
  pub current : s.message ≡ Some message
  pub one : IsOneOf message messages

-- behind PROTOCOL in a file
abbrev pub IsInFile : Mode → State → Type 0
IsInFile mode s = IsStarted s × (mode ≡ modes.File)

-- what a peer above writes too: data, and what was lost
abbrev pub data_heads : List Message
data_heads = TickerData ∷ StreamData ∷ HistoryData ∷ StreamLost ∷ []

-- the subscriptions that a record and a symbol alone say
abbrev pub sub_heads : List Message
sub_heads = TickerAdd ∷ StreamAdd ∷ TickerRemove ∷ StreamRemove ∷ []

-- where an item may stand: PROTOCOL in front of all others, a body line under a message of its form, a subscription not from
-- above, TIME not below the TIME before it
abbrev pub MayStand : Mode → State → List RecordDef → Item → Type 0
MayStand mode s defs Protocol = s.started ≡ false
MayStand mode s defs (Head message) = IsStarted s × (mode ≡ modes.Up → IsOneOf message data_heads)
MayStand mode s defs (Describe rec) = IsStarted s
MayStand mode s defs (Rec r) = IsUnderOne s (TickerData ∷ StreamData ∷ [])
MayStand mode s defs (Ev e) = IsUnderOne s (HistoryData ∷ [])
MayStand mode s defs (Sub key) = IsUnderOne s sub_heads ⊎ (IsUnderOne s (HistoryRemove ∷ []) × IsHistoryKey defs key)
MayStand mode s defs (HistSub sub) = IsUnderOne s (HistoryAdd ∷ [])
MayStand mode s defs (Lost key n) = IsUnderOne s (StreamLost ∷ [])
MayStand mode s defs Heartbeat = IsStarted s
MayStand mode s defs End = IsStarted s
MayStand mode s defs (Time ms) = IsInFile mode s × (s.time ≤ ms)
MayStand mode s defs (Link n) = IsInFile mode s
MayStand mode s defs (Take c n) = IsInFile mode s
MayStand mode s defs (Node n m) = IsInFile mode s
MayStand mode s defs (At n m) = IsInFile mode s
MayStand mode s defs (Pump n) = IsInFile mode s
MayStand mode s defs (Move n way b) = IsInFile mode s
