-- What the stripes of a collector give to a TAKE.
use Rattle.std.proofs.Common.{ℕ, suc, ◌≡◌, ◌≤◌, ◌-◌, ⊎_elim, inl, inr, Option, Some, None, List, [], ◌∷◌, ◌++◌, length, take, refl, sym, ◌∙◌, arith}
use Rattle.std.specs.List.{filter_map, cons_option}
use Rattle.std.proofs.lemmas.List.{length-take}
use Rattle.qd_buffer.specs.Filled.{Filled}
use Rattle.qd_scheme.specs.declared.key.Key.{Key}
use Rattle.qd_scheme.specs.declared.key.Record.{Record}
use Rattle.qd_sub.specs.declared.op.Op.{Op}
use Rattle.qd_sub.specs.declared.op.Reply.{Reply}
use Rattle.qd_sub.specs.declared.op.Reply.TheVariants as replies
use Rattle.qd_ticker.specs.Legal as ticker
use Rattle.qd_ticker.specs.Pending as ticker_pending
use Rattle.qd_stream.specs.Legal as stream
use Rattle.qd_stream.specs.Taking as stream_taking
use Rattle.qd_stream.specs.Taking.{reports}
use Rattle.qd_stream.specs.Waiting.{StreamMoment, waiting}
use Rattle.qd_hist_rules.specs.declared.item.HistItem.{HistItem}
use Rattle.qd_hist_rules.specs.declared.reply.HistoryReply.{HistoryReply}
use Rattle.qd_hist_rules.specs.declared.reply.HistoryReply.TheVariants as events
use Rattle.qd_hist_rules.specs.Legal as history
use Rattle.qd_grammar.specs.declared.item.Collector.{Collector}
use Rattle.qd_calls.specs.Turns.{IsAnswer}
use Rattle.qd_calls.proofs.Adding.{grew_more, grew_none}
use Rattle.qd_path.specs.Lists.{Lists, AreSound}
use Rattle.qd_path.specs.Texts.{ReplyItem}
use Rattle.qd_replies.proofs.Giving.{last_of}
use Rattle.qd_replay.specs.Running.{empty}
use Rattle.qd_replay.specs.Taking.{HasItems, HasEvents, TookNext, GiveUpTo}

-- fewer items are left
fewer : {X Y : Type 0} (f : X → Option Y) (xs : List X) → length (filter_map f xs) ≤ length xs
fewer f [] = omega arith
fewer f (x ∷ xs) = let r = fewer f xs in elim (f x) as (λ o. length (cons_option o (filter_map f xs)) ≤ suc (length xs)) [ None ↦ omega (arith, r) | Some y ↦ omega (arith, r) ]

-- a reply has items in the room that was lent, at most so many
abbrev pub IsGiven : {T : Type 0} → ℕ → Reply T → Type 0
IsGiven {T} most reply = (xs : List T) × (reply ≡ replies.Items (record { items = xs; room = 4096 })) × (length xs ≤ most)

abbrev pub AreEventsGiven : ℕ → HistoryReply → Type 0
AreEventsGiven most reply = (xs : List HistItem) × (reply ≡ events.Items (record { items = xs; room = 4096 })) × (length xs ≤ most)

-- a lawful reply to a TAKE is such
ticker_few : (agent most : ℕ) (now : ticker_pending.TickerMoment) → length (ticker_pending.taken agent most now) ≤ most
unfolding ticker_pending.taken
ticker_few agent most now =
    let keys : List Key = ticker_pending.queue_of agent now in
    let n = fewer (λ (k : Key). ticker_pending.last_record k now) (take most keys) in let m = length-take most keys in omega (arith, n, m)

stream_few : (cap agent most : ℕ) (now : StreamMoment) → length (stream_taking.taken cap agent most now) ≤ most
unfolding stream_taking.taken
stream_few cap agent most now = let m = length-take most (reports cap agent now ++ waiting cap agent now) in omega (arith, m)

pub ticker_given : (agent most : ℕ) (reply : Reply Record) → IsAnswer ticker.IsLegal (Op.Take agent most empty) reply → IsGiven most reply
unfolding ticker.Follows ticker.IsLawful ticker.reply_to
ticker_given agent most reply (p, q, a) = ⊎_elim (λ e. (_, e, ticker_few agent most _)) (λ w. absurd w.0) (last_of ticker.Follows p (Op.Take agent most empty) reply q a).1

pub stream_given : (agent most : ℕ) (reply : stream.StreamReply) → IsAnswer stream.IsLegal (Op.Take agent most empty) reply → IsGiven most reply
unfolding stream.Follows stream.IsLawful stream.reply_to
stream_given agent most reply (p, q, a) = ⊎_elim (λ e. (_, e, stream_few _ agent most _)) (λ w. absurd w.0) (last_of stream.Follows p (Op.Take agent most empty) reply q a).1

pub history_given : (agent most : ℕ) (reply : HistoryReply) → IsAnswer history.IsLegal (Op.Take agent most empty) reply → AreEventsGiven most reply
unfolding history.Follows history.IsLawful history.refusal
history_given agent most reply (p, q, a) = ⊎_elim (λ e. (e.0, e.1, e.2.within)) (λ w. absurd w.0) (last_of history.Follows p (Op.Take agent most empty) reply q a).1

pub has_items : {T : Type 0} (most : ℕ) (reply : Reply T) → IsGiven most reply → HasItems reply
has_items most reply (xs, e, few) = rw e tt

pub has_events : (most : ℕ) (reply : HistoryReply) → AreEventsGiven most reply → HasEvents reply
has_events most reply (xs, e, few) = rw e tt

-- these are the items that the reply has
pub items_given : {T : Type 0} (most : ℕ) (reply : Reply T) (items : Filled T) → IsGiven most reply → reply ≡ replies.Items items → (items.room ≡ 4096) × (length items.items ≤ most)
items_given most reply items (xs, e, few) same = let one : items ≡ record { items = xs; room = 4096 } = cc (e, same) in rw one (refl, few)

pub events_given : (most : ℕ) (reply : HistoryReply) (items : Filled HistItem) → AreEventsGiven most reply → reply ≡ events.Items items → (items.room ≡ 4096) × (length items.items ≤ most)
events_given most reply items (xs, e, few) same = let one : items ≡ record { items = xs; room = 4096 } = cc (e, same) in rw one (refl, few)

-- no stripe was asked
pub give_none : (n : ℕ) (c : Collector) (agent max : ℕ) (l : Lists) → AreSound n l → GiveUpTo n c agent max 0 [] l l
give_none n c agent max l sound = ([], (refl, refl), grew_none n l sound)

-- the next stripe was asked for what was still to be given
pub give_next : (n : ℕ) (c : Collector) (agent max k left : ℕ) (given all : List ReplyItem) (l m p : Lists) → left ≡ max - length given
    → GiveUpTo n c agent max k given l m → TookNext n c agent k left given all m p → GiveUpTo n c agent max (suc k) all l p
give_next n c agent max k left given all l m p e (made, taken, grew) (inl (none, same, stayed)) =
    (made, (made, given, taken, inl (sym e ∙ none, refl, same)), rw stayed grew)
give_next n c agent max k left given all l m p e (made, taken, grew) (inr (x, some, asked, more, grew')) =
    (made ++ x ∷ [], (made, given, taken, inr (x, rw (← e) some, rw (← e) asked, refl, more)), grew_more n made (x ∷ []) l m p grew grew')
