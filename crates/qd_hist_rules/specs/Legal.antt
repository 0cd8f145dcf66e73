-- Which logs of a history are legal.
use Rattle.std.specs.Prelude.{ℕ, ◌+◌, ◌^◌, Bool, ◌≡◌, ◌⊎◌, ◌==◌, nat_lt, if◌then◌else◌, Option, Some, None, MatchOption, List, [], ◌∷◌, ◌++◌, map, filter, length}
use Rattle.qd_scheme.specs.declared.key.Event.{Event}
use Rattle.qd_buffer.specs.Filled.{with_items}
use Rattle.qd_gate.specs.declared.machine.Entry.{Entry}
use Rattle.qd_gate.specs.declared.machine.Terms.{Terms}
use Rattle.qd_gate.specs.Logs.{EachFollows}
use Rattle.qd_sub.specs.declared.sub.Sub.{Sub}
use Rattle.qd_sub.specs.declared.op.Op.{Op}
use Rattle.qd_sub.specs.declared.op.Op.TheVariants.{Add, Remove, Close, Put, Take, Watch}
use Rattle.qd_sub.specs.Acts.{Full}
use Rattle.qd_sub.specs.Logs.{acts_done, acts_given, acts_told, after_log}
use Rattle.qd_sub.specs.Watching.{watched}
use Rattle.qd_sub.specs.Subscriptions.{wanted, keys_of}
use Rattle.qd_sub.specs.Holding.{held_keys, held_pairs, fresh}
use Rattle.qd_hist_rules.specs.declared.item.HistItem.{HistItem}
use Rattle.qd_hist_rules.specs.declared.reply.HistoryReply.{HistoryReply}
use Rattle.qd_hist_rules.specs.declared.reply.HistoryReply.TheVariants.{Done, Items, Wants, TooManyKeys, TooManySubs, HistoryFull, Spent, NoMemory}
use Rattle.qd_hist_rules.specs.Moments.{HistAct, HistMoment, event_key, item_key}
use Rattle.qd_hist_rules.specs.Source.{count, stock}
use Rattle.qd_hist_rules.specs.Takes.{LawfulTake}

abbrev pub HistoryOp : Type 0
HistoryOp = Op Event HistItem

-- the entries of a history
abbrev pub HistoryEntry : Type 0
HistoryEntry = Entry HistoryOp HistoryReply

-- the terms of a history: how many events an agent may be behind, and the number after which its commits are numbered
abbrev pub terms_of : ℕ → ℕ → Terms
terms_of hcap base = record { cap = 0; hcap = hcap; base = base }

-- the mark of the last of these items
abbrev pub last_mark : ℕ → List HistItem → List HistAct
last_mark a [] = []
last_mark a (i ∷ []) = Full a (item_key i) ∷ []
last_mark a (i ∷ j ∷ is) = last_mark a (j ∷ is)

-- the mark behind a Take that gave as many items as it was asked for
abbrev pub mark_of : HistoryOp → List HistItem → List HistAct
mark_of (Take agent most out) items = if length items == most then last_mark agent items else []
mark_of (Add agent subs) items = []
mark_of (Remove agent keys) items = []
mark_of (Close agent) items = []
mark_of (Put puts) items = []
mark_of (Watch watcher most out) items = []

-- the acts of an op and its reply; a refusal has none
abbrev pub history_acts : HistMoment → HistoryOp → HistoryReply → List HistAct
history_acts now op Done = acts_done (λ s. s.limit) event_key now op
history_acts now op (Items given) = acts_given item_key op given.items ++ mark_of op given.items
history_acts now op (Wants told) = acts_told op told.items
history_acts now op TooManyKeys = []
history_acts now op TooManySubs = []
history_acts now op HistoryFull = []
history_acts now op Spent = []
history_acts now op NoMemory = []

-- the moment after a log of a history
unfoldable pub moment_of : List HistoryEntry → HistMoment
moment_of log = after_log history_acts [] log

-- with the keys of the Add, more keys are held than may be
unfoldable pub too_many_keys : HistMoment → List Sub → Bool
too_many_keys now subs = nat_lt 16384 (length (held_keys now) + length (fresh (held_keys now) (map (λ s. s.key) subs)))

-- with those of the Add, more pairs are held than may be
unfoldable pub too_many_subs : HistMoment → ℕ → List Sub → Bool
too_many_subs now agent subs = nat_lt 262144 (length (held_pairs now) + length (fresh (keys_of agent now) (map (λ s. s.key) subs)))

-- with the events of the Put on wanted keys, more is kept and held back than may be
unfoldable pub is_full : ℕ → HistMoment → List Event → Bool
is_full base now items = nat_lt 262144 (stock base now + length (filter (λ e. wanted (event_key e) now) items))

-- with as many commits as the Put has events, more are made than may be
unfoldable pub is_spent : ℕ → HistMoment → List Event → Bool
is_spent base now items = nat_lt (2 ^ 63) (count base now + length items)

-- the refusal of an op, if it is refused: the first line that applies
unfoldable pub refusal : ℕ → HistMoment → HistoryOp → Option HistoryReply
refusal base now (Add agent subs) =
    if too_many_keys now subs.items then Some TooManyKeys else if too_many_subs now agent subs.items then Some TooManySubs else None
refusal base now (Put items) = if is_full base now items.items then Some HistoryFull else if is_spent base now items.items then Some Spent else None
refusal base now (Remove agent keys) = None
refusal base now (Close agent) = None
refusal base now (Take agent most out) = None
refusal base now (Watch watcher most out) = None

-- what an op that is not refused answers
abbrev pub Answers : Terms → HistMoment → HistoryOp → HistoryReply → Type 0
Answers terms now (Add agent subs) reply = reply ≡ Done
Answers terms now (Remove agent keys) reply = reply ≡ Done
Answers terms now (Close agent) reply = reply ≡ Done
Answers terms now (Put items) reply = reply ≡ Done
Answers terms now (Take agent most out) reply = (given : List HistItem) × (reply ≡ Items (with_items out given)) × LawfulTake terms agent most given now
Answers terms now (Watch watcher most out) reply = reply ≡ Wants (with_items out (watched watcher most now))

-- an Add and a Put may be refused for want of memory
abbrev pub MayWant : HistoryOp → Type 0
MayWant (Add agent subs) = Unit {0}
MayWant (Put items) = Unit {0}
MayWant (Remove agent keys) = ⊥
MayWant (Close agent) = ⊥
MayWant (Take agent most out) = ⊥
MayWant (Watch watcher most out) = ⊥

-- the reply is lawful at this moment: the refusal that applies, else the answer, or want of memory in its place
unfoldable pub IsLawful : Terms → HistMoment → HistoryOp → HistoryReply → Type 0
IsLawful terms now op reply =
    MatchOption (refusal terms.base now op)
    (Answers terms now op reply ⊎ (MayWant op × (reply ≡ NoMemory)))
    (λ refused. reply ≡ refused)

-- the entry is lawful over those before it
unfoldable pub Follows : Terms → List HistoryEntry → HistoryEntry → Type 0
Follows terms before entry = IsLawful terms (moment_of before) entry.op entry.reply

-- each entry of the log is lawful over those before it
abbrev pub IsLegal : Terms → List HistoryEntry → Type 0
IsLegal terms log = EachFollows (Follows terms) [] log
