-- The canonical line of an item.
use Rattle.std.specs.Prelude.{ℕ, List, [], ◌∷◌, ◌++◌, codes, Option, Some, None, slice_get, decimal}
use lib.IntN.{ℤ}
use Rattle.qd_decimal.specs.Texts.{dec_text}
use Rattle.qd_scheme.specs.declared.defs.RecordDef.{RecordDef}
use Rattle.qd_scheme.specs.declared.defs.FieldKind.{FieldKind}
use Rattle.qd_scheme.specs.declared.defs.FieldKind.TheVariants.{Int, Dec}
use Rattle.qd_scheme.specs.declared.key.Key.{Key}
use Rattle.qd_grammar.specs.declared.item.Collector.{Collector}
use Rattle.qd_grammar.specs.declared.item.Collector.TheVariants as collectors
use Rattle.qd_grammar.specs.declared.item.Way.{Way}
use Rattle.qd_grammar.specs.declared.item.Way.TheVariants as ways
use Rattle.qd_grammar.specs.declared.item.Message.{Message}
use Rattle.qd_grammar.specs.declared.item.Message.TheVariants.{TickerData, StreamData, HistoryData, StreamLost, TickerAdd, StreamAdd, HistoryAdd, TickerRemove, StreamRemove, HistoryRemove}
use Rattle.qd_grammar.specs.declared.item.Item.{Item}
use Rattle.qd_grammar.specs.declared.item.Item.TheVariants.{Protocol, Head, Describe, Rec, Ev, Sub, HistSub, Lost, Heartbeat, End, Time, Link, Take, Node, At, Pump, Move}
use Rattle.qd_grammar.specs.Body.{kinds_at}
use Rattle.qd_grammar.specs.Control.{description_at}

-- the parts with a TAB between each two
abbrev pub behind : List (List ℕ) → List ℕ
behind [] = []
behind (part ∷ parts) = 9 ∷ (part ++ behind parts)

abbrev pub joined : List (List ℕ) → List ℕ
joined [] = []
joined (part ∷ parts) = part ++ behind parts

abbrev pub cell_text : FieldKind → ℤ → List ℕ
cell_text Int value = dec_text 0 value
cell_text (Dec scale) value = dec_text scale value

abbrev pub cell_texts : List FieldKind → List ℤ → List (List ℕ)
cell_texts [] values = []
cell_texts (kind ∷ kinds) [] = []
cell_texts (kind ∷ kinds) (value ∷ values) = cell_text kind value ∷ cell_texts kinds values

abbrev pub name_at : Option RecordDef → List ℕ
name_at None = []
name_at (Some def) = def.name

abbrev pub head_text : Message → List ℕ
head_text TickerData = codes "==TICKER_DATA"
head_text StreamData = codes "==STREAM_DATA"
head_text HistoryData = codes "==HISTORY_DATA"
head_text StreamLost = codes "==STREAM_LOST"
head_text TickerAdd = codes "==TICKER_ADD_SUBSCRIPTION"
head_text StreamAdd = codes "==STREAM_ADD_SUBSCRIPTION"
head_text HistoryAdd = codes "==HISTORY_ADD_SUBSCRIPTION"
head_text TickerRemove = codes "==TICKER_REMOVE_SUBSCRIPTION"
head_text StreamRemove = codes "==STREAM_REMOVE_SUBSCRIPTION"
head_text HistoryRemove = codes "==HISTORY_REMOVE_SUBSCRIPTION"

abbrev pub collector_text : Collector → List ℕ
collector_text collectors.Ticker = codes "TICKER"
collector_text collectors.Stream = codes "STREAM"
collector_text collectors.History = codes "HISTORY"

abbrev pub way_text : Way → List ℕ
way_text ways.Up = codes "UP"
way_text ways.Down = codes "DOWN"

abbrev pub key_texts : List RecordDef → Key → List (List ℕ)
key_texts defs key = name_at (slice_get defs key.rec) ∷ key.sym ∷ []

-- the parts of an item's line
abbrev pub texts_of : List RecordDef → Item → List (List ℕ)
texts_of defs Protocol = codes "==PROTOCOL" ∷ codes "1" ∷ []
texts_of defs (Head message) = head_text message ∷ []
texts_of defs (Describe rec) = (61 ∷ name_at (slice_get defs rec)) ∷ description_at (slice_get defs rec)
texts_of defs (Rec r) = key_texts defs r.key ++ cell_texts (kinds_at (slice_get defs r.key.rec)) r.cells
texts_of defs (Ev e) = (key_texts defs e.key ++ (decimal e.index ∷ decimal e.flags ∷ [])) ++ cell_texts (kinds_at (slice_get defs e.key.rec)) e.cells
texts_of defs (Sub key) = key_texts defs key
texts_of defs (HistSub sub) = key_texts defs sub.key ++ (decimal sub.limit ∷ [])
texts_of defs (Lost key n) = key_texts defs key ++ (decimal n ∷ [])
texts_of defs Heartbeat = codes "==HEARTBEAT" ∷ []
texts_of defs End = codes "==END" ∷ []
texts_of defs (Time ms) = codes "==TIME" ∷ decimal ms ∷ []
texts_of defs (Link n) = codes "==LINK" ∷ decimal n ∷ []
texts_of defs (Take c n) = codes "==TAKE" ∷ collector_text c ∷ decimal n ∷ []
texts_of defs (Node n m) = codes "==NODE" ∷ decimal n ∷ decimal m ∷ []
texts_of defs (At n m) = codes "==AT" ∷ decimal n ∷ decimal m ∷ []
texts_of defs (Pump n) = codes "==PUMP" ∷ decimal n ∷ []
texts_of defs (Move n way b) = codes "==MOVE" ∷ decimal n ∷ way_text way ∷ decimal b ∷ []

-- the canonical line
unfoldable pub canonical : List RecordDef → Item → List ℕ
canonical defs item = joined (texts_of defs item)
