-- Which logs of a stream are legal.
use Rattle.std.specs.Prelude.{ℕ, ◌+◌, Bool, ◌≡◌, ◌⊎◌, nat_lt, if◌then◌else◌, List, [], map, length}
use Rattle.qd_buffer.specs.Filled.{with_items}
use Rattle.qd_gate.specs.declared.machine.Entry.{Entry}
use Rattle.qd_gate.specs.declared.machine.Terms.{Terms}
use Rattle.qd_gate.specs.Logs.{EachFollows}
use Rattle.qd_sub.specs.declared.sub.Sub.{Sub}
use Rattle.qd_sub.specs.declared.op.Op.{Op}
use Rattle.qd_sub.specs.declared.op.Op.TheVariants.{Add, Remove, Close, Put, Take, Watch}
use Rattle.qd_sub.specs.declared.op.Reply.{Reply}
use Rattle.qd_sub.specs.declared.op.Reply.TheVariants.{Done, Items, Wants, TooManyKeys, TooManySubs, NoMemory}
use Rattle.qd_sub.specs.Acts.{Act}
use Rattle.qd_sub.specs.Logs.{acts_of, after_log}
use Rattle.qd_sub.specs.Watching.{watched}
use Rattle.qd_sub.specs.Holding.{fresh}
use Rattle.qd_stream.specs.declared.item.StreamItem.{StreamItem}
use Rattle.qd_stream.specs.Items.{key_of_item}
use Rattle.qd_stream.specs.Waiting.{StreamMoment}
use Rattle.qd_stream.specs.Taking.{taken}
use Rattle.qd_stream.specs.Holding.{held_keys, held_pairs, held_by}

abbrev pub StreamOp : Type 0
StreamOp = Op StreamItem StreamItem

abbrev pub StreamReply : Type 0
StreamReply = Reply StreamItem

-- the entries of a stream
abbrev pub StreamEntry : Type 0
StreamEntry = Entry StreamOp StreamReply

-- the terms of a stream: how many items wait for an agent
abbrev pub terms_of : ℕ → Terms
terms_of cap = record { cap = cap; hcap = 0; base = 0 }

-- the acts of an op and its reply
abbrev pub stream_acts : StreamMoment → StreamOp → StreamReply → List (Act StreamItem StreamItem)
stream_acts now op reply = acts_of key_of_item key_of_item now op reply

-- the moment after a log of a stream
unfoldable pub moment_of : List StreamEntry → StreamMoment
moment_of log = after_log stream_acts [] log

-- with the keys of the Add, more keys are held than may be
unfoldable pub too_many_keys : ℕ → StreamMoment → List Sub → Bool
too_many_keys cap now subs = nat_lt 16384 (length (held_keys cap now) + length (fresh (held_keys cap now) (map (λ s. s.key) subs)))

-- with those of the Add, more pairs are held than may be
unfoldable pub too_many_subs : ℕ → StreamMoment → ℕ → List Sub → Bool
too_many_subs cap now agent subs = nat_lt 262144 (length (held_pairs cap now) + length (fresh (held_by cap agent now) (map (λ s. s.key) subs)))

-- the reply to an op: the first line that applies
unfoldable pub reply_to : ℕ → StreamMoment → StreamOp → StreamReply
reply_to cap now (Add agent subs) =
    if too_many_keys cap now subs.items then TooManyKeys else if too_many_subs cap now agent subs.items then TooManySubs else Done
reply_to cap now (Remove agent keys) = Done
reply_to cap now (Close agent) = Done
reply_to cap now (Put items) = Done
reply_to cap now (Take agent most out) = Items (with_items out (taken cap agent most now))
reply_to cap now (Watch watcher most out) = Wants (with_items out (watched watcher most now))

-- an Add alone may be refused for want of memory
abbrev pub IsAdd : StreamOp → Type 0
IsAdd (Add agent subs) = Unit {0}
IsAdd (Remove agent keys) = ⊥
IsAdd (Close agent) = ⊥
IsAdd (Put items) = ⊥
IsAdd (Take agent most out) = ⊥
IsAdd (Watch watcher most out) = ⊥

-- the reply is lawful at this moment: want of memory comes in place of Done alone
unfoldable pub IsLawful : ℕ → StreamMoment → StreamOp → StreamReply → Type 0
IsLawful cap now op reply = (reply ≡ reply_to cap now op) ⊎ (IsAdd op × (reply ≡ NoMemory) × (reply_to cap now op ≡ Done))

-- the entry is lawful over those before it
unfoldable pub Follows : Terms → List StreamEntry → StreamEntry → Type 0
Follows terms before entry = IsLawful terms.cap (moment_of before) entry.op entry.reply

-- each entry of the log is lawful over those before it
abbrev pub IsLegal : Terms → List StreamEntry → Type 0
IsLegal terms log = EachFollows (Follows terms) [] log
