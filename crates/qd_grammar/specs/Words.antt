-- The control words, and where each may stand.
use Rattle.std.specs.Prelude.{ℕ, cond, List, [], ◌∷◌, codes, Bool, true, false, Option, Some, None, nat_eq}
use Rattle.std.specs.Cmp.Lexicographic.{pointwise}
use Rattle.qd_grammar.specs.declared.item.Message.{Message}
use Rattle.qd_grammar.specs.declared.item.Message.TheVariants.{TickerData, StreamData, HistoryData, StreamLost, TickerAdd, StreamAdd, HistoryAdd, TickerRemove, StreamRemove, HistoryRemove}
use Rattle.qd_grammar.specs.declared.item.Mode.{Mode}
use Rattle.qd_grammar.specs.declared.item.Mode.TheVariants.{Down, Up, File}
use Rattle.qd_grammar.specs.declared.item.Collector.{Collector}
use Rattle.qd_grammar.specs.declared.item.Collector.TheVariants as collectors
use Rattle.qd_grammar.specs.declared.item.Way.{Way}
use Rattle.qd_grammar.specs.declared.item.Way.TheVariants as ways
use Rattle.qd_grammar.specs.declared.word.Word.{Word}
use Rattle.qd_grammar.specs.declared.word.Word.TheVariants as w

-- the value that stands behind a text in a table
abbrev pub found : {A : Type 0} → List (List ℕ × A) → List ℕ → Option A
found [] text = None
found (entry ∷ entries) text = cond (pointwise nat_eq text entry.0) (Some entry.1) (found entries text)

-- the heads
abbrev pub heads : List (List ℕ × Message)
heads =
    (codes "==TICKER_DATA", TickerData) ∷
    (codes "==STREAM_DATA", StreamData) ∷
    (codes "==HISTORY_DATA", HistoryData) ∷
    (codes "==STREAM_LOST", StreamLost) ∷
    (codes "==TICKER_ADD_SUBSCRIPTION", TickerAdd) ∷
    (codes "==STREAM_ADD_SUBSCRIPTION", StreamAdd) ∷
    (codes "==HISTORY_ADD_SUBSCRIPTION", HistoryAdd) ∷
    (codes "==TICKER_REMOVE_SUBSCRIPTION", TickerRemove) ∷
    (codes "==STREAM_REMOVE_SUBSCRIPTION", StreamRemove) ∷
    (codes "==HISTORY_REMOVE_SUBSCRIPTION", HistoryRemove) ∷ []

-- the control words that are no heads
abbrev pub others : List (List ℕ × Word)
others =
    (codes "==PROTOCOL", w.Protocol) ∷
    (codes "==HEARTBEAT", w.Heartbeat) ∷
    (codes "==END", w.End) ∷
    (codes "==TIME", w.Time) ∷
    (codes "==LINK", w.Link) ∷
    (codes "==TAKE", w.Take) ∷
    (codes "==NODE", w.Node) ∷
    (codes "==AT", w.At) ∷
    (codes "==PUMP", w.Pump) ∷
    (codes "==MOVE", w.Move) ∷ []

abbrev pub head_or_other : Option Message → Option Word → Option Word
head_or_other (Some message) other = Some (w.Head message)
head_or_other None other = other

-- what a control word begins
unfoldable pub word_of : List ℕ → Option Word
word_of text = head_or_other (found heads text) (found others text)

abbrev pub collectors_by_name : List (List ℕ × Collector)
collectors_by_name = (codes "TICKER", collectors.Ticker) ∷ (codes "STREAM", collectors.Stream) ∷ (codes "HISTORY", collectors.History) ∷ []

abbrev pub ways_by_name : List (List ℕ × Way)
ways_by_name = (codes "UP", ways.Up) ∷ (codes "DOWN", ways.Down) ∷ []

-- data, and what was lost, go both ways; a subscription goes up only, so its reader stands above
abbrev pub is_subscription : Message → Bool
is_subscription TickerData = false
is_subscription StreamData = false
is_subscription HistoryData = false
is_subscription StreamLost = false
is_subscription TickerAdd = true
is_subscription StreamAdd = true
is_subscription HistoryAdd = true
is_subscription TickerRemove = true
is_subscription StreamRemove = true
is_subscription HistoryRemove = true

abbrev pub is_for_file : Word → Bool
is_for_file w.Protocol = false
is_for_file (w.Head m) = false
is_for_file w.Heartbeat = false
is_for_file w.End = false
is_for_file w.Time = true
is_for_file w.Link = true
is_for_file w.Take = true
is_for_file w.Node = true
is_for_file w.At = true
is_for_file w.Pump = true
is_for_file w.Move = true

abbrev pub is_file : Mode → Bool
is_file Down = false
is_file Up = false
is_file File = true

abbrev pub is_up : Mode → Bool
is_up Down = false
is_up Up = true
is_up File = false
