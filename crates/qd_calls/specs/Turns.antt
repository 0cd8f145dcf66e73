-- How one call of a hub turned out.
use Rattle.std.specs.Prelude.{ℕ, Result, Ok, Err, List, [], ◌∷◌}
use Rattle.qd_gate.specs.declared.gate.NoTurn.{NoTurn}
use Rattle.qd_gate.specs.declared.gate.NoTurn.TheVariants.{Busy, Spent}
use Rattle.qd_gate.specs.declared.machine.Entry.{Entry}
use Rattle.qd_gate.specs.declared.machine.Terms.{Terms}
use Rattle.qd_gate.specs.Passes.{Pass, Answers, FoundBusy, FoundSpent}
use Rattle.qd_scheme.specs.declared.key.Record.{Record}
use Rattle.qd_sub.specs.declared.op.Op.{Op}
use Rattle.qd_sub.specs.declared.op.Reply.{Reply}
use Rattle.qd_ticker.specs.Legal as ticker
use Rattle.qd_stream.specs.Legal as stream
use Rattle.qd_hist_rules.specs.Legal as history
use Rattle.qd_hist_rules.specs.declared.reply.HistoryReply.{HistoryReply}
use Rattle.qd_path.specs.Lists.{Lists, GrewBy}
use Rattle.qd_path.specs.Made.{Made}

-- a stripe answers the op so: some list of it does
abbrev pub IsAnswer : {O R : Type 0} → (Terms → List (Entry O R) → Type 0) → O → R → Type 0
IsAnswer {O} {R} legal op reply = (p : Pass O R) × (q : Pass O R) × Answers legal p op reply q

-- the call was answered, and is the one call by which the lists grew; or no call was made, and the words found say why
abbrev pub TickerTurn : ℕ → ℕ → Op Record Record → Result (Reply Record) (NoTurn (Op Record Record)) → Lists → Lists → Type 0
TickerTurn n i op (Ok reply) l m = GrewBy n (Made.Ticker i op reply ∷ []) l m × Answers ticker.IsLegal (l.ticker i) op reply (m.ticker i)
TickerTurn n i op (Err (Busy first found back)) l m = GrewBy n [] l m × FoundBusy (l.ticker i) first found (m.ticker i)
TickerTurn n i op (Err (Spent word back)) l m = GrewBy n [] l m × FoundSpent ticker.IsLegal (l.ticker i) word (m.ticker i)

abbrev pub StreamTurn : ℕ → ℕ → stream.StreamOp → Result stream.StreamReply (NoTurn stream.StreamOp) → Lists → Lists → Type 0
StreamTurn n i op (Ok reply) l m = GrewBy n (Made.Stream i op reply ∷ []) l m × Answers stream.IsLegal (l.stream i) op reply (m.stream i)
StreamTurn n i op (Err (Busy first found back)) l m = GrewBy n [] l m × FoundBusy (l.stream i) first found (m.stream i)
StreamTurn n i op (Err (Spent word back)) l m = GrewBy n [] l m × FoundSpent stream.IsLegal (l.stream i) word (m.stream i)

abbrev pub HistoryTurn : ℕ → ℕ → history.HistoryOp → Result HistoryReply (NoTurn history.HistoryOp) → Lists → Lists → Type 0
HistoryTurn n i op (Ok reply) l m = GrewBy n (Made.History i op reply ∷ []) l m × Answers history.IsLegal (l.history i) op reply (m.history i)
HistoryTurn n i op (Err (Busy first found back)) l m = GrewBy n [] l m × FoundBusy (l.history i) first found (m.history i)
HistoryTurn n i op (Err (Spent word back)) l m = GrewBy n [] l m × FoundSpent history.IsLegal (l.history i) word (m.history i)
