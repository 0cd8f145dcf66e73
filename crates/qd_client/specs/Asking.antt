-- What a dump sends to the server.
use Rattle.std.specs.Prelude.{ℕ, ◌≡◌, Bool, true, false, Option, List, [], ◌∷◌, ◌++◌}
use Rattle.qd_grammar.specs.declared.item.Collector.{Collector}
use Rattle.qd_grammar.specs.declared.item.Collector.TheVariants.{Ticker, Stream, History}
use Rattle.qd_grammar.specs.declared.item.Item.{Item}
use Rattle.qd_grammar.specs.declared.item.Item.TheVariants as items
use Rattle.qd_grammar.specs.declared.item.Message.{Message}
use Rattle.qd_grammar.specs.declared.item.Message.TheVariants.{TickerAdd, StreamAdd, HistoryAdd}
use Rattle.qd_outside.specs.Writing.{IsCutShort, IsWritten}
use Rattle.qd_path.specs.Texts.{line_of}
use Rattle.qd_scheme.specs.declared.defs.RecordDef.{RecordDef}
use Rattle.qd_sub.specs.declared.sub.Sub.{Sub}

-- the message that begins subscriptions
abbrev pub add_of : Collector → Message
add_of Ticker = TickerAdd
add_of Stream = StreamAdd
add_of History = HistoryAdd

-- the item that subscribes to a key: in the history with a limit
abbrev pub asking_of : Collector → Sub → Item
asking_of Ticker want = items.Sub want.key
asking_of Stream want = items.Sub want.key
asking_of History want = items.HistSub want

-- a line for each want, in order
abbrev pub wants_text : List RecordDef → Collector → List Sub → List ℕ
wants_text defs collector [] = []
wants_text defs collector (want ∷ wants) = line_of defs (asking_of collector want) ++ wants_text defs collector wants

-- the subscription: PROTOCOL, the head, the wants, a heartbeat
abbrev pub asked : List RecordDef → Collector → List Sub → List ℕ
asked defs collector wants = line_of defs items.Protocol ++ ((line_of defs (items.Head (add_of collector)) ++ wants_text defs collector wants) ++ line_of defs items.Heartbeat)

-- a text was written and flushed, or a first part of it was written
abbrev pub Sends : Bool → List ℕ → Option (List ℕ) → Option (List ℕ) → Bool → ℕ → ℕ → Type 0
Sends true text was now flushed before after = IsWritten text was now before after × (flushed ≡ true)
Sends false text was now flushed before after = IsCutShort text was now before after
