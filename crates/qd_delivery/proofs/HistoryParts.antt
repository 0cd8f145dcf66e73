-- The same of the entries of a history.
use Rattle.std.proofs.Common.{◌≡◌, ℕ, Bool, true, false, ◌&&◌, ◌==◌, if◌then◌else◌, nat_eq, List, [], ◌∷◌, ◌++◌, map, length, refl, sym, ap, ◌∙◌, append_assoc}
use Rattle.std.proofs.lemmas.List.{append-nil}
use Rattle.qd_scheme.specs.declared.key.Key.{Key}
use Rattle.qd_scheme.specs.declared.key.Event.{Event}
use Rattle.qd_scheme.specs.Keys.{key_eq}
use Rattle.qd_sub.specs.declared.sub.Sub.{Sub}
use Rattle.qd_sub.specs.declared.op.Op.TheVariants.{Add, Remove, Close, Put, Take, Watch}
use Rattle.qd_sub.specs.Acts.{Subscribed, Gave}
use Rattle.qd_sub.specs.declared.sub.Want.{Want}
use Rattle.qd_buffer.specs.Filled.{Filled}
use Rattle.qd_sub.specs.Subscriptions.{and_put, keys_of}
use Rattle.qd_sub.specs.Logs.{after, after_entry, after_log}
use Rattle.qd_hist_rules.specs.declared.item.HistItem.{HistItem}
use Rattle.qd_hist_rules.specs.declared.reply.HistoryReply.{HistoryReply}
use Rattle.qd_hist_rules.specs.declared.reply.HistoryReply.TheVariants.{Done, Items, Wants, TooManyKeys, TooManySubs, HistoryFull, Spent, NoMemory}
use Rattle.qd_hist_rules.specs.Moments.{HistAct, HistMoment, event_key, item_key}
use Rattle.qd_hist_rules.specs.Legal.{HistoryOp, HistoryEntry, last_mark, history_acts, moment_of}
use Rattle.qd_passing.specs.Passing.{only}
use Rattle.qd_views.specs.Views.{puts, given, and_gift}
use Rattle.qd_ways.specs.Links.{events_given}
use Rattle.qd_delivery.specs.Delivery.{history_put_by, history_given_to, history_puts, history_gives}
use Rattle.qd_delivery.proofs.LogParts.{came, gifts, Nothing, puts-after, given-after, ends-none, close-none, told-none, none, puts-come, puts-give}

abbrev event_gifts : ℕ → Key → List HistAct → List Event
event_gifts a k acts = map (λ i. i.event) (gifts a k acts)

came-append : (k : Key) (xs ys : List HistAct) → came k (xs ++ ys) ≡ came k xs ++ came k ys
came-append k [] ys = refl
came-append k (x ∷ xs) ys = ap (λ zs. and_put k x [] ++ zs) (came-append k xs ys) ∙ sym (append_assoc (and_put k x []) (came k xs) (came k ys))

gifts-append : (a : ℕ) (k : Key) (xs ys : List HistAct) → gifts a k (xs ++ ys) ≡ gifts a k xs ++ gifts a k ys
gifts-append a k [] ys = refl
gifts-append a k (x ∷ xs) ys = ap (λ zs. and_gift a k x [] ++ zs) (gifts-append a k xs ys) ∙ sym (append_assoc (and_gift a k x []) (gifts a k xs) (gifts a k ys))

subs-none : (k : Key) (a b : ℕ) (subs : List Sub) → Nothing {P = Event} {T = HistItem} k a (map (λ (s : Sub). Subscribed b s.key s.limit) subs)
subs-none k a b [] = record { no_puts = refl; no_gifts = refl }
subs-none k a b (s ∷ subs) = let r = subs-none k a b subs in record { no_puts = r.no_puts; no_gifts = r.no_gifts }

mark-none : (k : Key) (a b : ℕ) (is : List HistItem) → Nothing {P = Event} {T = HistItem} k a (last_mark b is)
mark-none k a b [] = record { no_puts = refl; no_gifts = refl }
mark-none k a b (i ∷ []) = record { no_puts = refl; no_gifts = refl }
mark-none k a b (i ∷ j ∷ is) = mark-none k a b (j ∷ is)

mark-if : (k : Key) (a b : ℕ) (c : Bool) (is : List HistItem) → Nothing {P = Event} {T = HistItem} k a (if c then last_mark b is else [])
mark-if k a b true is = mark-none k a b is
mark-if k a b false is = record { no_puts = refl; no_gifts = refl }

gifts-come : (k : Key) (b : ℕ) (is : List HistItem) → came {P = Event} {T = HistItem} k (map (λ i. Gave b (item_key i) i) is) ≡ []
gifts-come k b [] = refl
gifts-come k b (i ∷ is) = gifts-come k b is

map-append : (xs ys : List HistItem) → map (λ i. i.event) (xs ++ ys) ≡ map (λ i. i.event) xs ++ map (λ i. i.event) ys
map-append [] ys = refl
map-append (x ∷ xs) ys = ap (λ es. x.event ∷ es) (map-append xs ys)

neither : (c : Bool) → (if c then (let es : List Event = [] in es) else []) ≡ []
neither true = refl
neither false = refl

gifts-give : (k : Key) (a b : ℕ) (is : List HistItem) → event_gifts a k (map (λ i. Gave b (item_key i) i) is) ≡ only (λ e. e.key) k (if nat_eq a b then map (λ i. i.event) is else [])
gifts-give k a b [] = sym (ap (only (λ e. e.key) k) (neither (nat_eq a b)))
gifts-give k a b (i ∷ is) = go (nat_eq a b) (gifts-give k a b is)
  where
    go : (c : Bool) → event_gifts a k (map (λ i. Gave b (item_key i) i) is) ≡ only (λ e. e.key) k (if c then map (λ i. i.event) is else [])
        → map (λ i. i.event) ((if c && key_eq k (item_key i) then i ∷ [] else []) ++ gifts {P = Event} {T = HistItem} a k (map (λ i. Gave b (item_key i) i) is)) ≡ only (λ e. e.key) k (if c then i.event ∷ map (λ i. i.event) is else [])
    go true ih = elim (key_eq k (item_key i)) as (λ d. map (λ i. i.event) ((if d then i ∷ [] else []) ++ gifts {P = Event} {T = HistItem} a k (map (λ i. Gave b (item_key i) i) is)) ≡ (if d then i.event ∷ only (λ e. e.key) k (map (λ i. i.event) is) else only (λ e. e.key) k (map (λ i. i.event) is))) [
      | true ↦ ap (λ es. i.event ∷ es) ih
      | false ↦ ih
    ]
    go false ih = ih

record Parts (k : Key) (a : ℕ) (now : HistMoment) (op : HistoryOp) (reply : HistoryReply) : Type 0 where
  put_is : came k (history_acts now op reply) ≡ only (λ e. e.key) k (history_put_by op reply)
  given_is : event_gifts a k (history_acts now op reply) ≡ only (λ e. e.key) k (history_given_to a op reply)

quiet : (k : Key) (a : ℕ) (now : HistMoment) (op : HistoryOp) (reply : HistoryReply) → Nothing k a (history_acts now op reply) → history_put_by op reply ≡ [] → history_given_to a op reply ≡ [] → Parts k a now op reply
quiet k a now op reply r p g = record { put_is = r.no_puts ∙ ap (only (λ e. e.key) k) (sym p); given_is = ap (map (λ i. i.event)) r.no_gifts ∙ ap (only (λ e. e.key) k) (sym g) }

parts-done : (k : Key) (a : ℕ) (now : HistMoment) (op : HistoryOp) → Parts k a now op Done
parts-done k a now (Add agent subs) = quiet k a now (Add agent subs) Done (subs-none k a agent subs.items) refl refl
parts-done k a now (Remove agent keys) = quiet k a now (Remove agent keys) Done (ends-none k a agent now keys.items) refl refl
parts-done k a now (Close agent) = quiet k a now (Close agent) Done (close-none k a agent (keys_of agent now)) refl refl
parts-done k a now (Put items) = record { put_is = puts-come event_key item_key k items.items; given_is = ap (map (λ i. i.event)) (puts-give event_key item_key k a items.items) }
parts-done k a now (Take agent most out) = quiet k a now (Take agent most out) Done (none k a) refl refl
parts-done k a now (Watch watcher most out) = quiet k a now (Watch watcher most out) Done (none k a) refl refl

parts-items : (k : Key) (a : ℕ) (now : HistMoment) (op : HistoryOp) (items : Filled HistItem) → Parts k a now op (Items items)
parts-items k a now (Take agent most out) items =
    let gave = map (λ i. Gave agent (item_key i) i) items.items in
    let mark = if length items.items == most then last_mark agent items.items else [] in
    let r = mark-if k a agent (length items.items == most) items.items in
    record {
      put_is = came-append k gave mark ∙ ap (λ xs. xs ++ came k mark) (gifts-come k agent items.items) ∙ r.no_puts;
      given_is = ap (map (λ i. i.event)) (gifts-append a k gave mark ∙ ap (λ xs. gifts a k gave ++ xs) r.no_gifts ∙ append-nil (gifts a k gave)) ∙ gifts-give k a agent items.items;
    }
parts-items k a now (Add agent subs) items = quiet k a now (Add agent subs) (Items items) (none k a) refl refl
parts-items k a now (Remove agent keys) items = quiet k a now (Remove agent keys) (Items items) (none k a) refl refl
parts-items k a now (Close agent) items = quiet k a now (Close agent) (Items items) (none k a) refl refl
parts-items k a now (Put es) items = quiet k a now (Put es) (Items items) (none k a) refl refl
parts-items k a now (Watch watcher most out) items = quiet k a now (Watch watcher most out) (Items items) (none k a) refl refl

parts-wants : (k : Key) (a : ℕ) (now : HistMoment) (op : HistoryOp) (wants : Filled Want) → Parts k a now op (Wants wants)
parts-wants k a now (Watch watcher most out) wants = quiet k a now (Watch watcher most out) (Wants wants) (told-none k a watcher wants.items) refl refl
parts-wants k a now (Take agent most out) wants = quiet k a now (Take agent most out) (Wants wants) (none k a) refl refl
parts-wants k a now (Add agent subs) wants = quiet k a now (Add agent subs) (Wants wants) (none k a) refl refl
parts-wants k a now (Remove agent keys) wants = quiet k a now (Remove agent keys) (Wants wants) (none k a) refl refl
parts-wants k a now (Close agent) wants = quiet k a now (Close agent) (Wants wants) (none k a) refl refl
parts-wants k a now (Put es) wants = quiet k a now (Put es) (Wants wants) (none k a) refl refl

abbrev is_refusal : HistoryReply → Bool
is_refusal Done = false
is_refusal (Items given) = false
is_refusal (Wants told) = false
is_refusal TooManyKeys = true
is_refusal TooManySubs = true
is_refusal HistoryFull = true
is_refusal Spent = true
is_refusal NoMemory = true

no_put : (op : HistoryOp) (reply : HistoryReply) → is_refusal reply ≡ true → history_put_by op reply ≡ []
no_put (Put items) Done h = cc h
no_put (Put items) (Items given) h = cc h
no_put (Put items) (Wants told) h = cc h
no_put (Put items) TooManyKeys h = refl
no_put (Put items) TooManySubs h = refl
no_put (Put items) HistoryFull h = refl
no_put (Put items) Spent h = refl
no_put (Put items) NoMemory h = refl
no_put (Add agent subs) reply h = refl
no_put (Remove agent keys) reply h = refl
no_put (Close agent) reply h = refl
no_put (Take agent most out) reply h = refl
no_put (Watch watcher most out) reply h = refl

no_gift : (a : ℕ) (op : HistoryOp) (reply : HistoryReply) → is_refusal reply ≡ true → history_given_to a op reply ≡ []
no_gift a (Take agent most out) Done h = cc h
no_gift a (Take agent most out) (Items given) h = cc h
no_gift a (Take agent most out) (Wants told) h = cc h
no_gift a (Take agent most out) TooManyKeys h = refl
no_gift a (Take agent most out) TooManySubs h = refl
no_gift a (Take agent most out) HistoryFull h = refl
no_gift a (Take agent most out) Spent h = refl
no_gift a (Take agent most out) NoMemory h = refl
no_gift a (Put items) reply h = refl
no_gift a (Add agent subs) reply h = refl
no_gift a (Remove agent keys) reply h = refl
no_gift a (Close agent) reply h = refl
no_gift a (Watch watcher most out) reply h = refl

parts : (k : Key) (a : ℕ) (now : HistMoment) (op : HistoryOp) (reply : HistoryReply) → Parts k a now op reply
parts k a now op Done = parts-done k a now op
parts k a now op (Items items) = parts-items k a now op items
parts k a now op (Wants wants) = parts-wants k a now op wants
parts k a now op TooManyKeys = quiet k a now op TooManyKeys (none k a) (no_put op TooManyKeys refl) (no_gift a op TooManyKeys refl)
parts k a now op TooManySubs = quiet k a now op TooManySubs (none k a) (no_put op TooManySubs refl) (no_gift a op TooManySubs refl)
parts k a now op HistoryFull = quiet k a now op HistoryFull (none k a) (no_put op HistoryFull refl) (no_gift a op HistoryFull refl)
parts k a now op Spent = quiet k a now op Spent (none k a) (no_put op Spent refl) (no_gift a op Spent refl)
parts k a now op NoMemory = quiet k a now op NoMemory (none k a) (no_put op NoMemory refl) (no_gift a op NoMemory refl)

log-puts : (k : Key) (log : List HistoryEntry) (now : HistMoment) → puts k (after_log history_acts now log) ≡ puts k now ++ history_puts k log
unfolding after_log after_entry
log-puts k [] now = sym (append-nil (puts k now))
log-puts k (e ∷ log) now =
    log-puts k log (after now (history_acts now e.op e.reply))
    ∙ ap (λ xs. xs ++ history_puts k log) (puts-after k now (history_acts now e.op e.reply) ∙ ap (λ xs. puts k now ++ xs) (parts k 0 now e.op e.reply).put_is)
    ∙ append_assoc (puts k now) (only (λ e. e.key) k (history_put_by e.op e.reply)) (history_puts k log)

log-gives : (a : ℕ) (k : Key) (log : List HistoryEntry) (now : HistMoment) → events_given a k (after_log history_acts now log) ≡ events_given a k now ++ history_gives a k log
unfolding after_log after_entry
log-gives a k [] now = sym (append-nil (events_given a k now))
log-gives a k (e ∷ log) now =
    log-gives a k log (after now (history_acts now e.op e.reply))
    ∙ ap (λ xs. xs ++ history_gives a k log) (ap (map (λ i. i.event)) (given-after a k now (history_acts now e.op e.reply)) ∙ map-append (given a k now) (gifts a k (history_acts now e.op e.reply)) ∙ ap (λ xs. events_given a k now ++ xs) (parts k a now e.op e.reply).given_is)
    ∙ append_assoc (events_given a k now) (only (λ e. e.key) k (history_given_to a e.op e.reply)) (history_gives a k log)

pub history-log-puts : (k : Key) (log : List HistoryEntry) → puts k (moment_of log) ≡ history_puts k log
unfolding moment_of
history-log-puts k log = log-puts k log []

pub history-log-gives : (a : ℕ) (k : Key) (log : List HistoryEntry) → events_given a k (moment_of log) ≡ history_gives a k log
unfolding moment_of
history-log-gives a k log = log-gives a k log []
