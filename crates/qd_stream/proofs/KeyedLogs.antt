-- In the moment after a log each item was put for its own key.
use Rattle.std.proofs.Common.{ℕ, true, false, if◌then◌else◌, List, [], ◌∷◌, ◌++◌, map, refl}
use Rattle.qd_scheme.specs.declared.key.Key.{Key}
use Rattle.qd_sub.specs.declared.sub.Sub.{Sub}
use Rattle.qd_sub.specs.declared.sub.Want.{Want}
use Rattle.qd_sub.specs.declared.op.Op.TheVariants.{Add, Remove, Close, Put, Take, Watch}
use Rattle.qd_sub.specs.declared.op.Reply.TheVariants.{Done, Items, Wants, TooManyKeys, TooManySubs, NoMemory}
use Rattle.qd_sub.specs.Acts.{Subscribed, Unsubscribed, Closed, Came, Gave, Told}
use Rattle.qd_sub.specs.Subscriptions.{subscribed, keys_of}
use Rattle.qd_sub.specs.Logs.{after, ends_of, after_entry, after_log}
use Rattle.qd_stream.specs.declared.item.StreamItem.{StreamItem}
use Rattle.qd_stream.specs.Items.{key_of_item}
use Rattle.qd_stream.specs.Waiting.{StreamMoment}
use Rattle.qd_stream.specs.Legal.{StreamOp, StreamReply, StreamEntry, stream_acts, moment_of}
use Rattle.qd_stream.proofs.HeldLaws.{EachKeyed}

keyed-subs : (a : ℕ) (subs : List Sub) (now : StreamMoment) → EachKeyed now → EachKeyed (after now (map (λ (s : Sub). Subscribed a s.key 0) subs))
unfolding after EachKeyed
keyed-subs a [] now h = h
keyed-subs a (s ∷ subs) now h = keyed-subs a subs (Subscribed a s.key 0 ∷ now) h

keyed-ends : (a : ℕ) (ks : List Key) (now : StreamMoment) → EachKeyed now → EachKeyed (after now (ends_of a now ks))
unfolding after ends_of EachKeyed
keyed-ends a [] now h = h
keyed-ends a (k ∷ ks) now h =
    elim (subscribed a k now) as (λ c. EachKeyed (after now (if c then Unsubscribed a k ∷ ends_of a (Unsubscribed a k ∷ now) ks else ends_of a now ks))) [
      | true ↦ keyed-ends a ks (Unsubscribed a k ∷ now) h
      | false ↦ keyed-ends a ks now h
    ]

keyed-close : (a : ℕ) (ks : List Key) (now : StreamMoment) → EachKeyed now → EachKeyed (after now (map (Unsubscribed a) ks ++ Closed a ∷ []))
unfolding after EachKeyed
keyed-close a [] now h = h
keyed-close a (k ∷ ks) now h = keyed-close a ks (Unsubscribed a k ∷ now) h

keyed-puts : (items : List StreamItem) (now : StreamMoment) → EachKeyed now → EachKeyed (after now (map (λ item. Came (key_of_item item) item) items))
unfolding after EachKeyed
keyed-puts [] now h = h
keyed-puts (item ∷ items) now h = keyed-puts items (Came (key_of_item item) item ∷ now) (refl, h)

keyed-gifts : (a : ℕ) (items : List StreamItem) (now : StreamMoment) → EachKeyed now → EachKeyed (after now (map (λ item. Gave a (key_of_item item) item) items))
unfolding after EachKeyed
keyed-gifts a [] now h = h
keyed-gifts a (item ∷ items) now h = keyed-gifts a items (Gave a (key_of_item item) item ∷ now) h

keyed-told : (w : ℕ) (wants : List Want) (now : StreamMoment) → EachKeyed now → EachKeyed (after now (map (λ (want : Want). Told w want.key want.total) wants))
unfolding after EachKeyed
keyed-told w [] now h = h
keyed-told w (want ∷ wants) now h = keyed-told w wants (Told w want.key want.total ∷ now) h

keyed-none : (now : StreamMoment) → EachKeyed now → EachKeyed (after now [])
unfolding after
keyed-none now h = h

keyed-done : (op : StreamOp) (now : StreamMoment) → EachKeyed now → EachKeyed (after now (stream_acts now op Done))
keyed-done (Add agent subs) now h = keyed-subs agent subs.items now h
keyed-done (Remove agent keys) now h = keyed-ends agent keys.items now h
keyed-done (Close agent) now h = keyed-close agent (keys_of agent now) now h
keyed-done (Put items) now h = keyed-puts items.items now h
keyed-done (Take agent most out) now h = keyed-none now h
keyed-done (Watch watcher most out) now h = keyed-none now h

keyed-given : (op : StreamOp) (items : _) (now : StreamMoment) → EachKeyed now → EachKeyed (after now (stream_acts now op (Items items)))
keyed-given (Take agent most out) items now h = keyed-gifts agent items.items now h
keyed-given (Add agent subs) items now h = keyed-none now h
keyed-given (Remove agent keys) items now h = keyed-none now h
keyed-given (Close agent) items now h = keyed-none now h
keyed-given (Put puts) items now h = keyed-none now h
keyed-given (Watch watcher most out) items now h = keyed-none now h

keyed-wants : (op : StreamOp) (wants : _) (now : StreamMoment) → EachKeyed now → EachKeyed (after now (stream_acts now op (Wants wants)))
keyed-wants (Watch watcher most out) wants now h = keyed-told watcher wants.items now h
keyed-wants (Add agent subs) wants now h = keyed-none now h
keyed-wants (Remove agent keys) wants now h = keyed-none now h
keyed-wants (Close agent) wants now h = keyed-none now h
keyed-wants (Put puts) wants now h = keyed-none now h
keyed-wants (Take agent most out) wants now h = keyed-none now h

keyed-entry : (op : StreamOp) (reply : StreamReply) (now : StreamMoment) → EachKeyed now → EachKeyed (after now (stream_acts now op reply))
keyed-entry op Done now h = keyed-done op now h
keyed-entry op (Items items) now h = keyed-given op items now h
keyed-entry op (Wants wants) now h = keyed-wants op wants now h
keyed-entry op TooManyKeys now h = keyed-none now h
keyed-entry op TooManySubs now h = keyed-none now h
keyed-entry op NoMemory now h = keyed-none now h

keyed-after : (log : List StreamEntry) (now : StreamMoment) → EachKeyed now → EachKeyed (after_log stream_acts now log)
unfolding after_log after_entry
keyed-after [] now h = h
keyed-after (entry ∷ log) now h = keyed-after log (after now (stream_acts now entry.op entry.reply)) (keyed-entry entry.op entry.reply now h)

pub keyed-log : (log : List StreamEntry) → EachKeyed (moment_of log)
unfolding moment_of EachKeyed
keyed-log log = keyed-after log [] tt
