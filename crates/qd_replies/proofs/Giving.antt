-- A stripe answers what it is asked.
use Rattle.std.proofs.Common.{ℕ, ◌≡◌, ⊎_elim, Bool, Option, List, [], ◌∷◌, ◌++◌, refl, ap, subst}
use Rattle.qd_buffer.specs.Filled.{Filled}
use Rattle.qd_gate.specs.declared.machine.Entry.{Entry}
use Rattle.qd_gate.specs.declared.machine.Terms.{Terms}
use Rattle.qd_gate.specs.Logs.{entry, EachFollows}
use Rattle.qd_gate.specs.Passes.{Pass, Answers}
use Rattle.qd_scheme.specs.declared.defs.RecordDef.{RecordDef}
use Rattle.qd_scheme.specs.declared.key.Record.{Record}
use Rattle.qd_sub.specs.declared.sub.Want.{Want}
use Rattle.qd_sub.specs.declared.op.Reply.{Reply}
use Rattle.qd_sub.specs.declared.op.Reply.TheVariants as replies
use Rattle.qd_ticker.specs.Legal as ticker
use Rattle.qd_stream.specs.Legal as stream
use Rattle.qd_hist_rules.specs.declared.reply.HistoryReply.{HistoryReply}
use Rattle.qd_hist_rules.specs.Legal as history
use Rattle.qd_hub.specs.Hubs.{TickerPass, StreamPass, HistoryPass}
use Rattle.qd_grammar.specs.declared.item.Collector.{Collector}
use Rattle.qd_path.specs.declared.side.Side.{Side}
use Rattle.qd_path.specs.declared.side.Side.TheVariants.{Down, Up}
use Rattle.qd_path.specs.Lists.{Lists, GrewBy}
use Rattle.qd_path.specs.Made.{Made, asked_in}
use Rattle.qd_path.specs.Texts.{items_in, reply_items, history_items, history_item, history_want_item}
use Rattle.qd_hist_rules.specs.declared.reply.HistoryReply.TheVariants as events
use Rattle.qd_replies.specs.declared.out_engine.Answer.{Answer}
use Rattle.qd_replies.specs.declared.out_engine.Answer.TheVariants.{Gave, Unwritten, Busy, Spent}
use Rattle.qd_replies.specs.Asked.{out_op, lent_given, lent_wants, plain_of, IsInLent, Writes}
use Rattle.qd_replies.specs.Outs.{Sunk, call_of, Outcome}

-- the last entry of a legal log follows entries before it
last_follows : {O R : Type 0} (follows : List (Entry O R) → Entry O R → Type 0) (before log : List (Entry O R)) (e : Entry O R)
    → EachFollows follows before (log ++ e ∷ []) → (seen : List (Entry O R)) × follows seen e
last_follows follows before [] e h = (before, h.0)
last_follows follows before (x ∷ xs) e h = last_follows follows (before ++ x ∷ []) xs e h.1

pub last_of : {O R : Type 0} (follows : Terms → List (Entry O R) → Entry O R → Type 0) (p : Pass O R) (op : O) (reply : R) (q : Pass O R)
    → Answers (λ terms log. EachFollows (follows terms) [] log) p op reply q → (seen : List (Entry O R)) × follows q.terms seen (entry p.number op reply)
last_of follows p op reply q a =
    last_follows (follows q.terms) [] (p.seen ++ a.between) (entry p.number op reply) (subst (λ log. EachFollows (follows q.terms) [] log) a.seen a.is_legal)

-- a reply with items to an agent, and with wants to a watcher, in the buffer that was lent
abbrev pub IsLawfulReply : {T : Type 0} → Side → Reply T → Type 0
IsLawfulReply {T} (Down agent) reply = (xs : List T) × (reply ≡ replies.Items (record { items = xs; room = 256 }))
IsLawfulReply {T} (Up watcher) reply = (xs : List Want) × (reply ≡ replies.Wants (record { items = xs; room = 256 }))

pub ticker_lawful : (side : Side) (p : TickerPass) (reply : Reply Record) (q : TickerPass) → Answers ticker.IsLegal p (out_op side) reply q → IsLawfulReply side reply
unfolding ticker.Follows ticker.IsLawful ticker.reply_to
ticker_lawful (Down agent) p reply q a = ⊎_elim (λ e. (_, e)) (λ w. absurd w.0) (last_of ticker.Follows p (out_op (Down agent)) reply q a).1
ticker_lawful (Up watcher) p reply q a = ⊎_elim (λ e. (_, e)) (λ w. absurd w.0) (last_of ticker.Follows p (out_op (Up watcher)) reply q a).1

pub stream_lawful : (side : Side) (p : StreamPass) (reply : stream.StreamReply) (q : StreamPass) → Answers stream.IsLegal p (out_op side) reply q → IsLawfulReply side reply
unfolding stream.Follows stream.IsLawful stream.reply_to
stream_lawful (Down agent) p reply q a = ⊎_elim (λ e. (_, e)) (λ w. absurd w.0) (last_of stream.Follows p (out_op (Down agent)) reply q a).1
stream_lawful (Up watcher) p reply q a = ⊎_elim (λ e. (_, e)) (λ w. absurd w.0) (last_of stream.Follows p (out_op (Up watcher)) reply q a).1

pub history_lawful : (side : Side) (p : HistoryPass) (reply : HistoryReply) (q : HistoryPass) → Answers history.IsLegal p (out_op side) reply q → IsLawfulReply side (plain_of reply)
unfolding history.Follows history.IsLawful history.refusal
history_lawful (Down agent) p reply q a = ⊎_elim (λ e. (e.0, ap plain_of e.1)) (λ w. absurd w.0) (last_of history.Follows p (out_op (Down agent)) reply q a).1
history_lawful (Up watcher) p reply q a = ⊎_elim (λ e. (_, ap plain_of e)) (λ w. absurd w.0) (last_of history.Follows p (out_op (Up watcher)) reply q a).1

-- so it came in the buffer that was lent, and the other one is there
pub in_lent : {T : Type 0} (side : Side) (reply : Reply T) (given : Option (Filled T)) (wants : Option (Filled Want)) → IsLawfulReply side reply → given ≡ lent_given side → wants ≡ lent_wants side → IsInLent reply given wants
in_lent (Down agent) reply given wants (xs, e) eg ew = rw e (refl, ew)
in_lent (Up watcher) reply given wants (xs, e) eg ew = rw e (refl, eg)

-- an answered call gave what it gave
pub gave : (defs : List RecordDef) (n : ℕ) (side : Side) (c : Collector) (i : ℕ) (answer : Answer) (x : Made) (l m : Lists) (flushed : Bool) (o w : Sunk)
    → asked_in x ≡ call_of side c i → GrewBy n (x ∷ []) l m → Writes defs (items_in x) answer flushed o.written w.written o.faults w.faults → Outcome defs n side c i answer l m flushed o w
gave defs n side c i (Gave count) x l m flushed o w asked grew writes = (x, asked, grew, writes)
gave defs n side c i Unwritten x l m flushed o w asked grew writes = (x, asked, grew, writes)
gave defs n side c i (Busy first found) x l m flushed o w asked grew writes = absurd writes
gave defs n side c i Spent x l m flushed o w asked grew writes = absurd writes

-- the items of a reply of the history
pub history_given : (reply : HistoryReply) → reply_items history_item history_want_item (plain_of reply) ≡ history_items reply
history_given events.Done = refl
history_given (events.Items items) = refl
history_given (events.Wants wants) = refl
history_given events.TooManyKeys = refl
history_given events.TooManySubs = refl
history_given events.HistoryFull = refl
history_given events.Spent = refl
history_given events.NoMemory = refl
