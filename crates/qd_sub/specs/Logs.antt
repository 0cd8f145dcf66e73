-- Which acts the entries of a log are, and the moment that they lead to.
use Rattle.std.specs.Prelude.{ℕ, if◌then◌else◌, List, [], ◌∷◌, ◌++◌, map}
use Rattle.qd_scheme.specs.declared.key.Key.{Key}
use Rattle.qd_gate.specs.declared.machine.Entry.{Entry}
use Rattle.qd_sub.specs.declared.sub.Sub.{Sub}
use Rattle.qd_sub.specs.declared.sub.Want.{Want}
use Rattle.qd_sub.specs.declared.op.Op.{Op}
use Rattle.qd_sub.specs.declared.op.Op.TheVariants.{Add, Remove, Close, Put, Take, Watch}
use Rattle.qd_sub.specs.declared.op.Reply.{Reply}
use Rattle.qd_sub.specs.declared.op.Reply.TheVariants.{Done, Items, Wants, TooManyKeys, TooManySubs, NoMemory}
use Rattle.qd_sub.specs.Acts.{Act, Subscribed, Unsubscribed, Closed, Came, Gave, Told, Moment}
use Rattle.qd_sub.specs.Subscriptions.{subscribed, keys_of}

-- the moment after these acts, in order
unfoldable pub after : {P T : Type 0} → Moment P T → List (Act P T) → Moment P T
after now [] = now
after now (act ∷ acts) = after (act ∷ now) acts

-- the ends of a's subscriptions to those of these keys to which it is subscribed at that place
unfoldable pub ends_of : {P T : Type 0} → ℕ → Moment P T → List Key → List (Act P T)
ends_of a now [] = []
ends_of a now (k ∷ ks) =
    if subscribed a k now then Unsubscribed a k ∷ ends_of a (Unsubscribed a k ∷ now) ks else ends_of a now ks

-- the acts of an op with the reply Done, where a subscription counts with this limit
abbrev pub acts_done : {P T : Type 0} → (Sub → ℕ) → (P → Key) → Moment P T → Op P T → List (Act P T)
acts_done limit key now (Add agent subs) = map (λ s. Subscribed agent s.key (limit s)) subs.items
acts_done limit key now (Remove agent keys) = ends_of agent now keys.items
acts_done limit key now (Close agent) = map (Unsubscribed agent) (keys_of agent now) ++ Closed agent ∷ []
acts_done limit key now (Put items) = map (λ item. Came (key item) item) items.items
acts_done limit key now (Take agent max out) = []
acts_done limit key now (Watch watcher max out) = []

-- the acts of a Take that gave these items
abbrev pub acts_given : {P T : Type 0} → (T → Key) → Op P T → List T → List (Act P T)
acts_given key (Take agent max out) items = map (λ item. Gave agent (key item) item) items
acts_given key (Add agent subs) items = []
acts_given key (Remove agent keys) items = []
acts_given key (Close agent) items = []
acts_given key (Put puts) items = []
acts_given key (Watch watcher max out) items = []

-- the acts of a Watch that told these totals
abbrev pub acts_told : {P T : Type 0} → Op P T → List Want → List (Act P T)
acts_told (Watch watcher max out) wants = map (λ want. Told watcher want.key want.total) wants
acts_told (Add agent subs) wants = []
acts_told (Remove agent keys) wants = []
acts_told (Close agent) wants = []
acts_told (Put puts) wants = []
acts_told (Take agent max out) wants = []

-- the acts of an op and its reply where limits play no part, so that each counts as 0; a refusal has none
abbrev pub acts_of : {P T : Type 0} → (P → Key) → (T → Key) → Moment P T → Op P T → Reply T → List (Act P T)
acts_of put_key given_key now op Done = acts_done (λ s. 0) put_key now op
acts_of put_key given_key now op (Items given) = acts_given given_key op given.items
acts_of put_key given_key now op (Wants told) = acts_told op told.items
acts_of put_key given_key now op TooManyKeys = []
acts_of put_key given_key now op TooManySubs = []
acts_of put_key given_key now op NoMemory = []

-- the moment after an entry, where `acts` are those of an op and its reply
unfoldable pub after_entry : {P T O R : Type 0} → (Moment P T → O → R → List (Act P T)) → Moment P T → Entry O R → Moment P T
after_entry acts now entry = after now (acts now entry.op entry.reply)

-- the moment after a log
unfoldable pub after_log : {P T O R : Type 0} → (Moment P T → O → R → List (Act P T)) → Moment P T → List (Entry O R) → Moment P T
after_log acts now [] = now
after_log acts now (entry ∷ log) = after_log acts (after_entry acts now entry) log
