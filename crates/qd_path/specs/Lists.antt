-- The lists for which a hub stands, and by which calls they grew.
use Rattle.std.specs.Prelude.{ℕ, ◌<◌, ◌≡◌, nat_eq, if◌then◌else◌, List, ◌++◌}
use mathlib.Core.List.{IsPrefix}
use Rattle.qd_gate.specs.declared.machine.Entry.{Entry}
use Rattle.qd_gate.specs.declared.machine.Terms.{Terms}
use Rattle.qd_gate.specs.Passes.{Pass, IsSamePass, FoundBusy, FoundSpent}
use Rattle.qd_row.specs.Passes.{IsSound}
use Rattle.qd_scheme.specs.declared.key.Record.{Record}
use Rattle.qd_sub.specs.declared.op.Op.{Op}
use Rattle.qd_sub.specs.declared.op.Reply.{Reply}
use Rattle.qd_ticker.specs.Legal as ticker
use Rattle.qd_stream.specs.Legal as stream
use Rattle.qd_hist_rules.specs.Legal as history
use Rattle.qd_hist_rules.specs.declared.reply.HistoryReply.{HistoryReply}
use Rattle.qd_grammar.specs.declared.item.Collector.{Collector}
use Rattle.qd_grammar.specs.declared.item.Collector.TheVariants.{Ticker, Stream, History}
use Rattle.qd_path.specs.Made.{Made, Answered, entries, ticker_calls, stream_calls, history_calls}

-- what a hub stands for, by collector and stripe
pub record Lists : Type 0 where
  pub ticker : ℕ → Pass (Op Record Record) (Reply Record)
  pub stream : ℕ → Pass stream.StreamOp stream.StreamReply
  pub history : ℕ → Pass history.HistoryOp HistoryReply

-- a hub of n stripes, which stands for what these relations say, stands for these lists
pub record AreOf (n : ℕ) (ticker : ℕ → Pass (Op Record Record) (Reply Record) → Type 0) (stream : ℕ → Pass stream.StreamOp stream.StreamReply → Type 0) (history : ℕ → Pass history.HistoryOp HistoryReply → Type 0) (l : Lists) : Type 0 where
  pub on_ticker : (i : ℕ) → i < n → ticker i (l.ticker i)
  pub on_stream : (i : ℕ) → i < n → stream i (l.stream i)
  pub on_history : (i : ℕ) → i < n → history i (l.history i)

-- what each list of a hub of n stripes has seen is legal, and its calls are all that this has of its number
pub record AreSound (n : ℕ) (l : Lists) : Type 0 where
  pub on_ticker : (i : ℕ) → i < n → IsSound ticker.IsLegal (l.ticker i)
  pub on_stream : (i : ℕ) → i < n → IsSound stream.IsLegal (l.stream i)
  pub on_history : (i : ℕ) → i < n → IsSound history.IsLegal (l.history i)

-- a pass made these calls, in order, and none beside: what it had seen and found begins what it has seen and found; what it has seen is legal, and its calls are all that this has of its number
pub record Gains {O R : Type 0} (legal : Terms → List (Entry O R) → Type 0) (made : List (Answered O R)) (p q : Pass O R) : Type 0 where
  pub same : IsSamePass p q
  pub begins : IsPrefix p.seen q.seen
  pub mine : q.mine ≡ p.mine ++ entries p.number made
  pub looked : IsPrefix p.looked q.looked
  pub sound : IsSound legal q

-- on each stripe the lists grew by the calls that were made of it, in order
pub record GrewBy (n : ℕ) (made : List Made) (l m : Lists) : Type 0 where
  pub on_ticker : (i : ℕ) → i < n → Gains ticker.IsLegal (ticker_calls i made) (l.ticker i) (m.ticker i)
  pub on_stream : (i : ℕ) → i < n → Gains stream.IsLegal (stream_calls i made) (l.stream i) (m.stream i)
  pub on_history : (i : ℕ) → i < n → Gains history.IsLegal (history_calls i made) (l.history i) (m.history i)

-- the stripe was looked at, and another caller had a turn: these two words were found
abbrev pub IsBusyAt : Collector → ℕ → ℕ → ℕ → Lists → Lists → Type 0
IsBusyAt Ticker i first found l m = FoundBusy (l.ticker i) first found (m.ticker i)
IsBusyAt Stream i first found l m = FoundBusy (l.stream i) first found (m.stream i)
IsBusyAt History i first found l m = FoundBusy (l.history i) first found (m.history i)

-- the stripe was looked at, and its word was found at its end
abbrev pub IsSpentAt : Collector → ℕ → Lists → Lists → Type 0
IsSpentAt Ticker i l m = (word : ℕ) × FoundSpent ticker.IsLegal (l.ticker i) word (m.ticker i)
IsSpentAt Stream i l m = (word : ℕ) × FoundSpent stream.IsLegal (l.stream i) word (m.stream i)
IsSpentAt History i l m = (word : ℕ) × FoundSpent history.IsLegal (l.history i) word (m.history i)

-- lists with those of one stripe in place of what they were
abbrev pub at_stripe : {X : Type 0} → ℕ → X → (ℕ → X) → ℕ → X
at_stripe i x f j = if nat_eq i j then x else f j

abbrev pub with_ticker : ℕ → Pass (Op Record Record) (Reply Record) → Lists → Lists
with_ticker i q l = record { ticker = at_stripe i q l.ticker; stream = l.stream; history = l.history }

abbrev pub with_stream : ℕ → Pass stream.StreamOp stream.StreamReply → Lists → Lists
with_stream i q l = record { ticker = l.ticker; stream = at_stripe i q l.stream; history = l.history }

abbrev pub with_history : ℕ → Pass history.HistoryOp HistoryReply → Lists → Lists
with_history i q l = record { ticker = l.ticker; stream = l.stream; history = at_stripe i q l.history }
