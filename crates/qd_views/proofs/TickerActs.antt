-- In a legal log of a ticker each record was put for its own key, and each one given was pending, and the last one kept.
use Rattle.std.proofs.Common.{◌≡◌, inl, inr, ℕ, suc, zero, Bool, true, false, ◌||◌, not, if◌then◌else◌, Option, Some, None, List, [], ◌∷◌, ◌++◌, map, refl, sym, ap, ◌∙◌, append_assoc, subst}
use Rattle.std.specs.Prelude.{take}
use Rattle.std.specs.List.{list_all, filter_map, cons_option}
use Rattle.std.proofs.lemmas.List.{append-nil}
use Rattle.std.proofs.lemmas.Bool.{and_from, not-true}
use Rattle.qd_scheme.specs.declared.key.Key.{Key}
use Rattle.qd_scheme.specs.declared.key.Record.{Record}
use Rattle.qd_scheme.specs.Keys.{key_eq}
use Rattle.qd_scheme.proofs.KeyLaws.{key_eq-comm, key_eq-true}
use Rattle.qd_gate.specs.declared.machine.Terms.{Terms}
use Rattle.qd_gate.specs.Logs.{EachFollows}
use Rattle.qd_sub.specs.declared.sub.Sub.{Sub}
use Rattle.qd_sub.specs.declared.sub.Want.{Want}
use Rattle.qd_sub.specs.declared.op.Op.{Op}
use Rattle.qd_sub.specs.declared.op.Op.TheVariants.{Add, Remove, Close, Put, Take, Watch}
use Rattle.qd_sub.specs.declared.op.Reply.{Reply}
use Rattle.qd_sub.specs.declared.op.Reply.TheVariants.{Done, TooManyKeys, TooManySubs}
use Rattle.qd_sub.specs.Acts.{Act, Subscribed, Unsubscribed, Closed, Came, Gave, Told, Full, is_pair}
use Rattle.qd_sub.specs.Subscriptions.{subscribed, wanted, keys_of, and_put, kept}
use Rattle.qd_sub.specs.Holding.{has_key}
use Rattle.qd_sub.specs.Logs.{after, ends_of, after_entry, after_log}
use Rattle.qd_sub.specs.Watching.{watched}
use Rattle.qd_sub.specs.Since.{unbroken}
use Rattle.qd_sub.specs.Acts.{newest_key}
use Rattle.qd_sub.proofs.LogLaws.{after_log-push}
use Rattle.qd_sub.proofs.OrderLaws.{once}
use Rattle.qd_sub.proofs.SinceLaws.{and-left, and-right, by_since-holds}
use Rattle.qd_sub.proofs.SubscriptionLaws.{kept-gave}
use Rattle.qd_ticker.specs.Pending.{TickerMoment, last, last_record, pending, queue_of, taken}
use Rattle.qd_ticker.specs.Legal.{TickerEntry, record_key, ticker_acts, moment_of, reply_to, IsLawful, Follows, IsLegal, too_many_keys, too_many_subs}
use Rattle.qd_views.specs.Views.{IsTickerMoment}
use Rattle.qd_views.proofs.ActKinds.{quiet-gift, number-same}
use Rattle.qd_views.proofs.PendingActs.{pending-quiet, queue-once}

abbrev pub ActFits : Act Record Record → TickerMoment → Type 0
ActFits (Gave a k r) past = (pending a k past ≡ true) × (last_record k past ≡ Some r)
ActFits (Came k r) past = k ≡ r.key
ActFits (Subscribed b j limit) past = Unit {0}
ActFits (Unsubscribed b j) past = Unit {0}
ActFits (Closed b) past = Unit {0}
ActFits (Told w j total) past = Unit {0}
ActFits (Full b j) past = Unit {0}

abbrev pub EachFits : TickerMoment → Type 0
EachFits [] = Unit {0}
EachFits (act ∷ past) = ActFits act past × EachFits past

-- of a moment, at each moment before it
fits-before : (later now : TickerMoment) → EachFits (later ++ now) → EachFits now
fits-before [] now h = h
fits-before (act ∷ later) now h = fits-before later now h.1

-- what is kept of a key is of that key
abbrev AllOf : Key → List Record → Type 0
AllOf k [] = Unit {0}
AllOf k (r ∷ rs) = (k ≡ r.key) × AllOf k rs

push-of : (k : Key) (rs : List Record) (r : Record) → AllOf k rs → k ≡ r.key → AllOf k (rs ++ r ∷ [])
push-of k [] r h e = (e, tt)
push-of k (q ∷ rs) r h e = (h.0, push-of k rs r h.1 e)

last-of : (k : Key) (rs : List Record) (r : Record) → AllOf k rs → last rs ≡ Some r → k ≡ r.key
last-of k [] r h e = cc e
last-of k (q ∷ []) r h e = let s : q ≡ r = cc e in h.0 ∙ ap (λ (x : Record). x.key) s
last-of k (p ∷ q ∷ rs) r h e = last-of k (q ∷ rs) r h.1 e

put-of : (k : Key) (act : Act Record Record) (past : TickerMoment) (rs : List Record) → ActFits act past → AllOf k rs → AllOf k (and_put k act rs)
put-of k (Came j r) past rs f h = go (key_eq k j) refl
  where
    go : (b : Bool) → key_eq k j ≡ b → AllOf k (if b then rs ++ r ∷ [] else rs)
    go true e = push-of k rs r h (key_eq-true k j e ∙ f)
    go false e = h
put-of k (Subscribed b j limit) past rs f h = h
put-of k (Unsubscribed b j) past rs f h = h
put-of k (Closed b) past rs f h = h
put-of k (Gave b j item) past rs f h = h
put-of k (Told w j total) past rs f h = h
put-of k (Full b j) past rs f h = h

kept-of : (k : Key) (now : TickerMoment) → EachFits now → AllOf k (kept k now)
unfolding kept
kept-of k [] h = tt
kept-of k (act ∷ past) h = elim (wanted k (act ∷ past)) as (λ b. AllOf k (if b then and_put k act (kept k past) else [])) [
  | true ↦ put-of k act past (kept k past) h.0 (kept-of k past h.1)
  | false ↦ tt
]

label : (k : Key) (r : Record) (now : TickerMoment) → EachFits now → last_record k now ≡ Some r → k ≡ r.key
unfolding last_record
label k r now h e = last-of k (kept k now) r (kept-of k now h) e

-- the acts of each kind of entry
fits-subs : (a : ℕ) (subs : List Sub) (now : TickerMoment) → EachFits now → EachFits (after now (map (λ (s : Sub). Subscribed a s.key 0) subs))
unfolding after
fits-subs a [] now h = h
fits-subs a (s ∷ subs) now h = fits-subs a subs (Subscribed a s.key 0 ∷ now) (tt, h)

fits-ends : (a : ℕ) (ks : List Key) (now : TickerMoment) → EachFits now → EachFits (after now (ends_of a now ks))
unfolding after ends_of
fits-ends a [] now h = h
fits-ends a (k ∷ ks) now h =
    elim (subscribed a k now) as (λ c. EachFits (after now (if c then Unsubscribed a k ∷ ends_of a (Unsubscribed a k ∷ now) ks else ends_of a now ks))) [
      | true ↦ fits-ends a ks (Unsubscribed a k ∷ now) (tt, h)
      | false ↦ fits-ends a ks now h
    ]

fits-close : (a : ℕ) (ks : List Key) (now : TickerMoment) → EachFits now → EachFits (after now (map (Unsubscribed a) ks ++ Closed a ∷ []))
unfolding after
fits-close a [] now h = (tt, h)
fits-close a (k ∷ ks) now h = fits-close a ks (Unsubscribed a k ∷ now) (tt, h)

fits-puts : (items : List Record) (now : TickerMoment) → EachFits now → EachFits (after now (map (λ item. Came (record_key item) item) items))
unfolding after
fits-puts [] now h = h
fits-puts (item ∷ items) now h = fits-puts items (Came (record_key item) item ∷ now) (refl, h)

fits-told : (w : ℕ) (wants : List Want) (now : TickerMoment) → EachFits now → EachFits (after now (map (λ (want : Want). Told w want.key want.total) wants))
unfolding after
fits-told w [] now h = h
fits-told w (want ∷ wants) now h = fits-told w wants (Told w want.key want.total ∷ now) (tt, h)

fits-none : (now : TickerMoment) → EachFits now → EachFits (after now [])
unfolding after
fits-none now h = h

or-none : (b c : Bool) → (b || c) ≡ false → (b ≡ false) × (c ≡ false)
or-none true c h = cc h
or-none false c h = (refl, h)

-- a gift leaves other keys pending
others-wait : (a : ℕ) (k : Key) (r : Record) (ks : List Key) (now : TickerMoment) → has_key ks k ≡ false → list_all (λ j. pending a j now) ks ≡ true → list_all (λ j. pending a j (Gave a k r ∷ now)) ks ≡ true
others-wait a k r [] now h w = refl
others-wait a k r (j ∷ ks) now h w =
    let parts = or-none (key_eq k j) (has_key ks k) h in
    let other : is_pair a j a k ≡ false = rw (number-same a, key_eq-comm j k) parts.0 in
    and_from (pending a j (Gave a k r ∷ now)) (list_all (λ j. pending a j (Gave a k r ∷ now)) ks)
    (pending-quiet a j (Gave a k r) now (quiet-gift a j a k r now other) ∙ and-left (pending a j now) (list_all (λ j. pending a j now) ks) w)
    (others-wait a k r ks now parts.1 (and-right (pending a j now) (list_all (λ j. pending a j now) ks) w))

-- the gifts of keys
abbrev Gifts : (a : ℕ) (f : Key → Option Record) (ks : List Key) → Type 0
Gifts a f ks = (now : TickerMoment) → ((k : Key) → last_record k now ≡ f k) → list_all (λ k. pending a k now) ks ≡ true → once key_eq ks ≡ true → EachFits now → EachFits (after now (map (λ r. Gave a (record_key r) r) (filter_map f ks)))

fits-gift : (a : ℕ) (f : Key → Option Record) (k : Key) (ks : List Key) → Gifts a f ks → Gifts a f (k ∷ ks)
unfolding after once last_record
fits-gift a f k ks rest now same w o h = go (f k) refl
  where
    alone : has_key ks k ≡ false
    alone = not-true (has_key ks k) (and-left (not (has_key ks k)) (once key_eq ks) o)

    waits : list_all (λ k. pending a k now) ks ≡ true
    waits = and-right (pending a k now) (list_all (λ k. pending a k now) ks) w

    go : (v : Option Record) → f k ≡ v → EachFits (after now (map (λ r. Gave a (record_key r) r) (cons_option v (filter_map f ks))))
    go None e = rest now same waits (and-right (not (has_key ks k)) (once key_eq ks) o) h
    go (Some r) e =
        let is : last_record k now ≡ Some r = same k ∙ e in
        subst (λ j. EachFits (after (Gave a j r ∷ now) (map (λ r. Gave a (record_key r) r) (filter_map f ks)))) (label k r now h is)
        (rest (Gave a k r ∷ now) (λ j. ap last (kept-gave j a k r now) ∙ same j) (others-wait a k r ks now alone waits) (and-right (not (has_key ks k)) (once key_eq ks) o)
        ((and-left (pending a k now) (list_all (λ k. pending a k now) ks) w, is), h))

fits-gifts : (a : ℕ) (f : Key → Option Record) (ks : List Key) → Gifts a f ks
unfolding after
fits-gifts a f [] now same w o h = h
fits-gifts a f (k ∷ ks) now same w o h = fits-gift a f k ks (fits-gifts a f ks) now same w o h

all-take : {X : Type 0} (p : X → Bool) (n : ℕ) (xs : List X) → list_all p xs ≡ true → list_all p (take n xs) ≡ true
all-take p zero [] h = refl
all-take p zero (x ∷ xs) h = refl
all-take p (suc n) [] h = refl
all-take p (suc n) (x ∷ xs) h = and_from (p x) (list_all p (take n xs)) (and-left (p x) (list_all p xs) h) (all-take p n xs (and-right (p x) (list_all p xs) h))

none-take : (k : Key) (n : ℕ) (xs : List Key) → has_key xs k ≡ false → has_key (take n xs) k ≡ false
none-take k zero [] h = refl
none-take k zero (x ∷ xs) h = refl
none-take k (suc n) [] h = refl
none-take k (suc n) (x ∷ xs) h =
    let p = or-none (key_eq k x) (has_key xs k) h in rw p.0 (none-take k n xs p.1)

once-take : (n : ℕ) (xs : List Key) → once key_eq xs ≡ true → once key_eq (take n xs) ≡ true
unfolding once
once-take zero [] h = refl
once-take zero (x ∷ xs) h = refl
once-take (suc n) [] h = refl
once-take (suc n) (x ∷ xs) h =
    let alone = not-true (has_key xs x) (and-left (not (has_key xs x)) (once key_eq xs) h) in
    and_from (not (has_key (take n xs) x)) (once key_eq (take n xs)) (ap not (none-take x n xs alone)) (once-take n xs (and-right (not (has_key xs x)) (once key_eq xs) h))

fits-take : (a most : ℕ) (now : TickerMoment) → EachFits now → EachFits (after now (map (λ r. Gave a (record_key r) r) (taken a most now)))
unfolding taken queue_of
fits-take a most now h =
    fits-gifts a (λ k. last_record k now) (take most (queue_of a now)) now (λ k. refl)
    (all-take (λ k. pending a k now) most (queue_of a now) (by_since-holds newest_key unbroken (pending a) now)) (once-take most (queue_of a now) (queue-once a now)) h

fits-done : (op : Op Record Record) (now : TickerMoment) → EachFits now → EachFits (after now (ticker_acts now op Done))
fits-done (Add agent subs) now h = fits-subs agent subs.items now h
fits-done (Remove agent keys) now h = fits-ends agent keys.items now h
fits-done (Close agent) now h = fits-close agent (keys_of agent now) now h
fits-done (Put items) now h = fits-puts items.items now h
fits-done (Take agent most out) now h = fits-none now h
fits-done (Watch watcher most out) now h = fits-none now h

refusal-or : (b c : Bool) (op : Op Record Record) (now : TickerMoment) → EachFits now → EachFits (after now (ticker_acts now op Done)) → EachFits (after now (ticker_acts now op (if b then TooManyKeys else if c then TooManySubs else Done)))
refusal-or true c op now h d = fits-none now h
refusal-or false true op now h d = fits-none now h
refusal-or false false op now h d = d

fits-reply : (op : Op Record Record) (now : TickerMoment) → EachFits now → EachFits (after now (ticker_acts now op (reply_to now op)))
unfolding reply_to
fits-reply (Add agent subs) now h = refusal-or (too_many_keys now subs.items) (too_many_subs now agent subs.items) (Add agent subs) now h (fits-done (Add agent subs) now h)
fits-reply (Remove agent keys) now h = fits-done (Remove agent keys) now h
fits-reply (Close agent) now h = fits-done (Close agent) now h
fits-reply (Put items) now h = fits-done (Put items) now h
fits-reply (Take agent most out) now h = fits-take agent most now h
fits-reply (Watch watcher most out) now h = fits-told watcher (watched watcher most now) now h

fits-lawful : (op : Op Record Record) (reply : Reply Record) (now : TickerMoment) → EachFits now → IsLawful now op reply → EachFits (after now (ticker_acts now op reply))
unfolding IsLawful
fits-lawful op reply now h (inl e) = subst (λ (r : Reply Record). EachFits (after now (ticker_acts now op r))) (sym e) (fits-reply op now h)
fits-lawful op reply now h (inr e) = subst (λ (r : Reply Record). EachFits (after now (ticker_acts now op r))) (sym e.1) (fits-none now h)

one-more : (log : List TickerEntry) (e : TickerEntry) → moment_of (log ++ e ∷ []) ≡ after (moment_of log) (ticker_acts (moment_of log) e.op e.reply)
unfolding moment_of after_entry
one-more log e = after_log-push ticker_acts [] log e

fits-follow : (terms : Terms) (before log : List TickerEntry) → EachFits (moment_of before) → EachFollows (Follows terms) before log → EachFits (moment_of (before ++ log))
unfolding Follows
fits-follow terms before [] w h = subst (λ (l : List TickerEntry). EachFits (moment_of l)) (sym (append-nil before)) w
fits-follow terms before (e ∷ es) w h =
    let next = subst EachFits (sym (one-more before e)) (fits-lawful e.op e.reply (moment_of before) w h.0) in
    subst (λ (l : List TickerEntry). EachFits (moment_of l)) (append_assoc before (e ∷ []) es) (fits-follow terms (before ++ e ∷ []) es next h.1)

fits-log : (terms : Terms) (log : List TickerEntry) → IsLegal terms log → EachFits (moment_of log)
unfolding moment_of after_log
fits-log terms log h = fits-follow terms [] log tt h

pub fits-moment : (terms : Terms) (now : TickerMoment) → IsTickerMoment terms now → EachFits now
fits-moment terms now m = fits-before m.within.later now (subst EachFits (sym m.within.is) (fits-log terms m.log m.legal))
