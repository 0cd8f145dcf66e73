-- What a run has done: the calls with their replies, in one legal log for each stripe, and what was printed.
use Rattle.std.specs.Prelude.{ℕ, zero, suc, ◌≡◌, ◌<◌, ◌-◌, ◌⊎◌, List, [], ◌∷◌, ◌++◌, length}
use Rattle.qd_buffer.specs.Filled.{Filled}
use Rattle.qd_ticker.specs.Legal as ticker
use Rattle.qd_stream.specs.Legal as stream
use Rattle.qd_hist_rules.specs.Legal as history
use Rattle.qd_sub.specs.declared.op.Op.TheVariants.{Take}
use Rattle.qd_grammar.specs.declared.item.Collector.{Collector}
use Rattle.qd_grammar.specs.declared.item.Collector.TheVariants as collectors
use Rattle.qd_scheme.specs.declared.defs.RecordDef.{RecordDef}
use Rattle.qd_calls.specs.Dues.{TellsLimit, TellsSpent, TellsWant}
use Rattle.qd_path.specs.declared.call.Asked.{Asked}
use Rattle.qd_path.specs.declared.call.Call.TheVariants as calls
use Rattle.qd_path.specs.Made.{Made, asked_in, entries, ticker_calls, stream_calls, history_calls, IsDone}
use Rattle.qd_path.specs.Texts.{ReplyItem, items_in, line_of}
use Rattle.qd_replay.specs.declared.due.Refusal.{Refusal}
use Rattle.qd_replay.specs.declared.due.Refusal.TheVariants as refusals
use Rattle.qd_replay.specs.Replies.{reply_text}
use Rattle.qd_replay.specs.Scripts.{Act}
use Rattle.qd_replay.specs.Scripts.Act.{Ask, Say, Give}
use Rattle.qd_replay.specs.Settings.{Books}

-- the calls made of each of n stripes, in order, with their replies, are a legal log
pub record AreLegal (n : ℕ) (books : Books) (made : List Made) : Type 0 where
  pub on_ticker : (i : ℕ) → i < n → ticker.IsLegal (books.ticker i).terms (entries (books.ticker i).number (ticker_calls i made))
  pub on_stream : (i : ℕ) → i < n → stream.IsLegal (books.stream i).terms (entries (books.stream i).number (stream_calls i made))
  pub on_history : (i : ℕ) → i < n → history.IsLegal (books.history i).terms (entries (books.history i).number (history_calls i made))

-- a buffer with room for as many items as may be asked for, without items
abbrev pub empty : {X : Type 0} → Filled X
empty = record { items = []; room = 4096 }

-- an agent asks a stripe of a collector for at most so many items
abbrev pub take_of : Collector → ℕ → ℕ → ℕ → Asked
take_of collectors.Ticker agent i max = record { stripe = i; call = calls.Ticker (Take agent max empty) }
take_of collectors.Stream agent i max = record { stripe = i; call = calls.Stream (Take agent max empty) }
take_of collectors.History agent i max = record { stripe = i; call = calls.History (Take agent max empty) }

-- nothing is still to be given; or a stripe was asked for what is, and gave this
abbrev pub TakesNext : Collector → ℕ → ℕ → ℕ → List Made → List ReplyItem → List Made → List ReplyItem → Type 0
TakesNext c agent i left before given made all =
    ((left ≡ 0) × (made ≡ before) × (all ≡ given))
    ⊎ ((x : Made) × (0 < left) × (asked_in x ≡ take_of c agent i left) × (made ≡ before ++ x ∷ []) × (all ≡ given ++ items_in x))

-- the first k stripes of a collector were asked for at most max items, each for what the ones before it left to be given
abbrev pub AreTaken : Collector → ℕ → ℕ → ℕ → List Made → List ReplyItem → Type 0
AreTaken c agent max zero made given = (made ≡ []) × (given ≡ [])
AreTaken c agent max (suc k) made all = (before : List Made) × (given : List ReplyItem) × AreTaken c agent max k before given × TakesNext c agent k (max - length given) before given made all

-- an act was done by these calls, and this was printed of it
abbrev pub Did : ℕ → List RecordDef → Act → List Made → List ℕ → Type 0
Did n defs (Ask a) made out = (x : Made) × (made ≡ x ∷ []) × (asked_in x ≡ a) × IsDone x × (out ≡ [])
Did n defs (Say item) made out = (made ≡ []) × (out ≡ line_of defs item)
Did n defs (Give c link max) made out = (given : List ReplyItem) × AreTaken c link max n made given × (out ≡ reply_text defs link c given)

-- acts were done in order, by these calls and none beside, none of which was refused, and this was printed
abbrev pub Ran : ℕ → List RecordDef → List Act → List Made → List ℕ → Type 0
Ran n defs [] made out = (made ≡ []) × (out ≡ [])
Ran n defs (a ∷ acts) made out =
    (first : List Made) × (more : List Made) × (text : List ℕ) × (rest : List ℕ)
    × (made ≡ first ++ more) × (out ≡ text ++ rest) × Did n defs a first text × Ran n defs acts more rest

-- the reply of a call is this refusal
abbrev pub IsRefusal : Refusal → Made → Type 0
IsRefusal (refusals.TooMany limit) x = TellsLimit limit x
IsRefusal refusals.Spent x = TellsSpent x
IsRefusal refusals.NoMemory x = TellsWant x
