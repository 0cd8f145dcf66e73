-- Which logs of a ticker are legal.
use Rattle.std.specs.Prelude.{ℕ, ◌+◌, Bool, ◌≡◌, ◌⊎◌, nat_lt, if◌then◌else◌, List, [], map, length}
use Rattle.qd_scheme.specs.declared.key.Key.{Key}
use Rattle.qd_scheme.specs.declared.key.Record.{Record}
use Rattle.qd_buffer.specs.Filled.{with_items}
use Rattle.qd_gate.specs.declared.machine.Entry.{Entry}
use Rattle.qd_gate.specs.declared.machine.Terms.{Terms}
use Rattle.qd_gate.specs.Logs.{EachFollows}
use Rattle.qd_sub.specs.declared.sub.Sub.{Sub}
use Rattle.qd_sub.specs.declared.op.Op.{Op}
use Rattle.qd_sub.specs.declared.op.Op.TheVariants.{Add, Remove, Close, Put, Take, Watch}
use Rattle.qd_sub.specs.declared.op.Reply.{Reply}
use Rattle.qd_sub.specs.declared.op.Reply.TheVariants.{Done, Items, Wants, TooManyKeys, TooManySubs, NoMemory}
use Rattle.qd_sub.specs.Acts.{Act}
use Rattle.qd_sub.specs.Logs.{acts_of, after_log}
use Rattle.qd_sub.specs.Watching.{watched}
use Rattle.qd_sub.specs.Subscriptions.{keys_of}
use Rattle.qd_sub.specs.Holding.{held_keys, held_pairs, fresh}
use Rattle.qd_ticker.specs.Pending.{TickerMoment, taken}

-- the entries of a ticker
abbrev pub TickerEntry : Type 0
TickerEntry = Entry (Op Record Record) (Reply Record)

-- a ticker has no terms
abbrev pub no_terms : Terms
no_terms = record { cap = 0; hcap = 0; base = 0 }

-- the key of a record put or given
abbrev pub record_key : Record → Key
record_key r = r.key

-- the acts of an op and its reply
abbrev pub ticker_acts : TickerMoment → Op Record Record → Reply Record → List (Act Record Record)
ticker_acts now op reply = acts_of record_key record_key now op reply

-- the moment after a log of a ticker
unfoldable pub moment_of : List TickerEntry → TickerMoment
moment_of log = after_log ticker_acts [] log

-- with the keys of the Add, more keys are held than may be
unfoldable pub too_many_keys : TickerMoment → List Sub → Bool
too_many_keys now subs = nat_lt 16384 (length (held_keys now) + length (fresh (held_keys now) (map (λ s. s.key) subs)))

-- with those of the Add, more pairs are held than may be
unfoldable pub too_many_subs : TickerMoment → ℕ → List Sub → Bool
too_many_subs now agent subs = nat_lt 262144 (length (held_pairs now) + length (fresh (keys_of agent now) (map (λ s. s.key) subs)))

-- the reply to an op: the first line that applies
unfoldable pub reply_to : TickerMoment → Op Record Record → Reply Record
reply_to now (Add agent subs) =
    if too_many_keys now subs.items then TooManyKeys else if too_many_subs now agent subs.items then TooManySubs else Done
reply_to now (Remove agent keys) = Done
reply_to now (Close agent) = Done
reply_to now (Put items) = Done
reply_to now (Take agent most out) = Items (with_items out (taken agent most now))
reply_to now (Watch watcher most out) = Wants (with_items out (watched watcher most now))

-- in place of Done, an Add may be refused for want of memory
abbrev pub IsWant : Op Record Record → Type 0
IsWant (Add agent subs) = Unit {0}
IsWant (Remove agent keys) = ⊥
IsWant (Close agent) = ⊥
IsWant (Put items) = ⊥
IsWant (Take agent most out) = ⊥
IsWant (Watch watcher most out) = ⊥

-- the reply is lawful at this moment
unfoldable pub IsLawful : TickerMoment → Op Record Record → Reply Record → Type 0
IsLawful now op reply = (reply ≡ reply_to now op) ⊎ (IsWant op × (reply ≡ NoMemory) × (reply_to now op ≡ Done))

-- the entry is lawful over those before it
unfoldable pub Follows : Terms → List TickerEntry → TickerEntry → Type 0
Follows terms before entry = IsLawful (moment_of before) entry.op entry.reply

-- each entry of the log is lawful over those before it
abbrev pub IsLegal : Terms → List TickerEntry → Type 0
IsLegal terms log = EachFollows (Follows terms) [] log
