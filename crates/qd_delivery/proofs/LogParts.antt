-- What the entries of a log put and give is what its moment has of them.
use Rattle.std.proofs.Common.{◌≡◌, ℕ, Bool, true, false, ◌&&◌, if◌then◌else◌, nat_eq, List, [], ◌∷◌, ◌++◌, map, refl, sym, ap, ◌∙◌, append_assoc}
use Rattle.std.proofs.lemmas.List.{append-nil}
use Rattle.qd_scheme.specs.declared.key.Key.{Key}
use Rattle.qd_scheme.specs.Keys.{key_eq}
use Rattle.qd_gate.specs.declared.machine.Entry.{Entry}
use Rattle.qd_sub.specs.declared.sub.Sub.{Sub}
use Rattle.qd_sub.specs.declared.sub.Want.{Want}
use Rattle.qd_sub.specs.declared.op.Op.{Op}
use Rattle.qd_sub.specs.declared.op.Op.TheVariants.{Add, Remove, Close, Put, Take, Watch}
use Rattle.qd_sub.specs.declared.op.Reply.{Reply}
use Rattle.qd_sub.specs.declared.op.Reply.TheVariants.{Done, Items, Wants, TooManyKeys, TooManySubs, NoMemory}
use Rattle.qd_sub.specs.Acts.{Act, Subscribed, Unsubscribed, Closed, Came, Gave, Told, Full, Moment, is_pair}
use Rattle.qd_sub.specs.Subscriptions.{subscribed, and_put, keys_of}
use Rattle.qd_sub.specs.Logs.{after, ends_of, acts_of, after_entry, after_log}
use Rattle.qd_passing.specs.Passing.{only}
use Rattle.qd_views.specs.Views.{puts, given, and_gift}
use Rattle.qd_views.proofs.PutLists.{put-apart}
use Rattle.qd_delivery.specs.Delivery.{put_by, given_to, log_puts, log_gives}

module _ {P T : Type 0} where
  -- what acts put of k, and give a of k
  abbrev pub came : Key → List (Act P T) → List P
  came k [] = []
  came k (act ∷ acts) = and_put k act [] ++ came k acts

  abbrev pub gifts : ℕ → Key → List (Act P T) → List T
  gifts a k [] = []
  gifts a k (act ∷ acts) = and_gift a k act [] ++ gifts a k acts

  gift-apart : (a : ℕ) (k : Key) (act : Act P T) (xs : List T) → and_gift a k act xs ≡ xs ++ and_gift a k act []
  gift-apart a k (Gave b j i) xs = elim (is_pair a k b j) as (λ c. (if c then xs ++ i ∷ [] else xs) ≡ xs ++ (if c then i ∷ [] else [])) [ true ↦ refl | false ↦ sym (append-nil xs) ]
  gift-apart a k (Subscribed b j limit) xs = sym (append-nil xs)
  gift-apart a k (Unsubscribed b j) xs = sym (append-nil xs)
  gift-apart a k (Closed b) xs = sym (append-nil xs)
  gift-apart a k (Came j i) xs = sym (append-nil xs)
  gift-apart a k (Told w j total) xs = sym (append-nil xs)
  gift-apart a k (Full b j) xs = sym (append-nil xs)

  pub puts-after : (k : Key) (now : Moment P T) (acts : List (Act P T)) → puts k (after now acts) ≡ puts k now ++ came k acts
  unfolding after
  puts-after k now [] = sym (append-nil (puts k now))
  puts-after k now (act ∷ acts) =
      puts-after k (act ∷ now) acts ∙ ap (λ xs. xs ++ came k acts) (ap (and_put k act) (sym (append-nil (puts k now))) ∙ put-apart k act (puts k now) []) ∙ append_assoc (puts k now) (and_put k act []) (came k acts)

  pub given-after : (a : ℕ) (k : Key) (now : Moment P T) (acts : List (Act P T)) → given a k (after now acts) ≡ given a k now ++ gifts a k acts
  unfolding after
  given-after a k now [] = sym (append-nil (given a k now))
  given-after a k now (act ∷ acts) = given-after a k (act ∷ now) acts ∙ ap (λ xs. xs ++ gifts a k acts) (gift-apart a k act (given a k now)) ∙ append_assoc (given a k now) (and_gift a k act []) (gifts a k acts)

  -- acts that put and give nothing
  pub record Nothing (k : Key) (a : ℕ) (acts : List (Act P T)) : Type 0 where
    pub no_puts : came k acts ≡ []
    pub no_gifts : gifts a k acts ≡ []

  subs-none : (k : Key) (a b : ℕ) (subs : List Sub) → Nothing k a (map (λ (s : Sub). Subscribed b s.key 0) subs)
  subs-none k a b [] = record { no_puts = refl; no_gifts = refl }
  subs-none k a b (s ∷ subs) = let r = subs-none k a b subs in record { no_puts = r.no_puts; no_gifts = r.no_gifts }

  pub ends-none : (k : Key) (a b : ℕ) (now : Moment P T) (ks : List Key) → Nothing k a (ends_of b now ks)
  unfolding ends_of
  ends-none k a b now [] = record { no_puts = refl; no_gifts = refl }
  ends-none k a b now (j ∷ ks) = elim (subscribed b j now) as (λ c. Nothing k a (if c then Unsubscribed b j ∷ ends_of b (Unsubscribed b j ∷ now) ks else ends_of b now ks)) [
    | true ↦ (let r = ends-none k a b (Unsubscribed b j ∷ now) ks in record { no_puts = r.no_puts; no_gifts = r.no_gifts })
    | false ↦ ends-none k a b now ks
  ]

  pub close-none : (k : Key) (a b : ℕ) (ks : List Key) → Nothing k a (map (Unsubscribed b) ks ++ Closed b ∷ [])
  close-none k a b [] = record { no_puts = refl; no_gifts = refl }
  close-none k a b (j ∷ ks) = let r = close-none k a b ks in record { no_puts = r.no_puts; no_gifts = r.no_gifts }

  pub told-none : (k : Key) (a w : ℕ) (wants : List Want) → Nothing k a (map (λ (want : Want). Told w want.key want.total) wants)
  told-none k a w [] = record { no_puts = refl; no_gifts = refl }
  told-none k a w (x ∷ wants) = let r = told-none k a w wants in record { no_puts = r.no_puts; no_gifts = r.no_gifts }

  pub none : (k : Key) (a : ℕ) → Nothing k a []
  none k a = record { no_puts = refl; no_gifts = refl }

  module _ (put_key : P → Key) (given_key : T → Key) where
    pub puts-come : (k : Key) (items : List P) → came k (map (λ item. Came (put_key item) item) items) ≡ only put_key k items
    puts-come k [] = refl
    puts-come k (i ∷ items) = elim (key_eq k (put_key i)) as (λ c. (if c then i ∷ [] else []) ++ came k (map (λ item. Came (put_key item) item) items) ≡ (if c then i ∷ only put_key k items else only put_key k items)) [
      | true ↦ ap (λ xs. i ∷ xs) (puts-come k items)
      | false ↦ puts-come k items
    ]

    pub puts-give : (k : Key) (a : ℕ) (items : List P) → gifts a k (map (λ item. Came (put_key item) item) items) ≡ []
    puts-give k a [] = refl
    puts-give k a (i ∷ items) = puts-give k a items

    gifts-come : (k : Key) (b : ℕ) (items : List T) → came k (map (λ item. Gave b (given_key item) item) items) ≡ []
    gifts-come k b [] = refl
    gifts-come k b (i ∷ items) = gifts-come k b items

    gifts-give : (k : Key) (a b : ℕ) (items : List T) → gifts a k (map (λ item. Gave b (given_key item) item) items) ≡ only given_key k (if nat_eq a b then items else [])
    gifts-give k a b [] = elim (nat_eq a b) as (λ c. [] ≡ only given_key k (if c then [] else [])) [ true ↦ refl | false ↦ refl ]
    gifts-give k a b (i ∷ items) = go (nat_eq a b) (gifts-give k a b items)
      where
        go : (c : Bool) → gifts a k (map (λ item. Gave b (given_key item) item) items) ≡ only given_key k (if c then items else [])
            → (if c && key_eq k (given_key i) then i ∷ [] else []) ++ gifts a k (map (λ item. Gave b (given_key item) item) items) ≡ only given_key k (if c then i ∷ items else [])
        go true ih = elim (key_eq k (given_key i)) as (λ d. (if d then i ∷ [] else []) ++ gifts a k (map (λ item. Gave b (given_key item) item) items) ≡ (if d then i ∷ only given_key k items else only given_key k items)) [
          | true ↦ ap (λ xs. i ∷ xs) ih
          | false ↦ ih
        ]
        go false ih = ih

    -- what an entry puts and gives
    record Parts (k : Key) (a : ℕ) (now : Moment P T) (op : Op P T) (reply : Reply T) : Type 0 where
      put_is : came k (acts_of put_key given_key now op reply) ≡ only put_key k (put_by op reply)
      given_is : gifts a k (acts_of put_key given_key now op reply) ≡ only given_key k (given_to a op reply)

    parts-done : (k : Key) (a : ℕ) (now : Moment P T) (op : Op P T) → Parts k a now op Done
    parts-done k a now (Add agent subs) = let r = subs-none k a agent subs.items in record { put_is = r.no_puts; given_is = r.no_gifts }
    parts-done k a now (Remove agent keys) = let r = ends-none k a agent now keys.items in record { put_is = r.no_puts; given_is = r.no_gifts }
    parts-done k a now (Close agent) = let r = close-none k a agent (keys_of agent now) in record { put_is = r.no_puts; given_is = r.no_gifts }
    parts-done k a now (Put items) = record { put_is = puts-come k items.items; given_is = puts-give k a items.items }
    parts-done k a now (Take agent most out) = record { put_is = refl; given_is = refl }
    parts-done k a now (Watch watcher most out) = record { put_is = refl; given_is = refl }

    parts-items : (k : Key) (a : ℕ) (now : Moment P T) (op : Op P T) (items : _) → Parts k a now op (Items items)
    parts-items k a now (Take agent most out) items = record { put_is = gifts-come k agent items.items; given_is = gifts-give k a agent items.items }
    parts-items k a now (Add agent subs) items = record { put_is = refl; given_is = refl }
    parts-items k a now (Remove agent keys) items = record { put_is = refl; given_is = refl }
    parts-items k a now (Close agent) items = record { put_is = refl; given_is = refl }
    parts-items k a now (Put puts) items = record { put_is = refl; given_is = refl }
    parts-items k a now (Watch watcher most out) items = record { put_is = refl; given_is = refl }

    parts-wants : (k : Key) (a : ℕ) (now : Moment P T) (op : Op P T) (wants : _) → Parts k a now op (Wants wants)
    parts-wants k a now (Watch watcher most out) wants = let r = told-none k a watcher wants.items in record { put_is = r.no_puts; given_is = r.no_gifts }
    parts-wants k a now (Take agent most out) wants = record { put_is = refl; given_is = refl }
    parts-wants k a now (Add agent subs) wants = record { put_is = refl; given_is = refl }
    parts-wants k a now (Remove agent keys) wants = record { put_is = refl; given_is = refl }
    parts-wants k a now (Close agent) wants = record { put_is = refl; given_is = refl }
    parts-wants k a now (Put puts) wants = record { put_is = refl; given_is = refl }

    refused : (k : Key) (a : ℕ) (now : Moment P T) (op : Op P T) → (put_by op TooManyKeys ≡ []) × (put_by op TooManySubs ≡ []) × (put_by {T = T} op NoMemory ≡ []) × (given_to a op TooManyKeys ≡ []) × (given_to a op TooManySubs ≡ []) × (given_to a op NoMemory ≡ [])
    refused k a now (Add agent subs) = (refl, refl, refl, refl, refl, refl)
    refused k a now (Remove agent keys) = (refl, refl, refl, refl, refl, refl)
    refused k a now (Close agent) = (refl, refl, refl, refl, refl, refl)
    refused k a now (Put items) = (refl, refl, refl, refl, refl, refl)
    refused k a now (Take agent most out) = (refl, refl, refl, refl, refl, refl)
    refused k a now (Watch watcher most out) = (refl, refl, refl, refl, refl, refl)

    parts : (k : Key) (a : ℕ) (now : Moment P T) (op : Op P T) (reply : Reply T) → Parts k a now op reply
    parts k a now op Done = parts-done k a now op
    parts k a now op (Items items) = parts-items k a now op items
    parts k a now op (Wants wants) = parts-wants k a now op wants
    parts k a now op TooManyKeys = let r = refused k a now op in record { put_is = ap (only put_key k) (sym r.0); given_is = ap (only given_key k) (sym r.3) }
    parts k a now op TooManySubs = let r = refused k a now op in record { put_is = ap (only put_key k) (sym r.1); given_is = ap (only given_key k) (sym r.4) }
    parts k a now op NoMemory = let r = refused k a now op in record { put_is = ap (only put_key k) (sym r.2); given_is = ap (only given_key k) (sym r.5) }

    pub log-puts : (k : Key) (log : List (Entry (Op P T) (Reply T))) (now : Moment P T) → puts k (after_log (acts_of put_key given_key) now log) ≡ puts k now ++ log_puts put_key k log
    unfolding after_log after_entry
    log-puts k [] now = sym (append-nil (puts k now))
    log-puts k (e ∷ log) now =
        log-puts k log (after now (acts_of put_key given_key now e.op e.reply))
        ∙ ap (λ xs. xs ++ log_puts put_key k log) (puts-after k now (acts_of put_key given_key now e.op e.reply) ∙ ap (λ xs. puts k now ++ xs) (parts k 0 now e.op e.reply).put_is)
        ∙ append_assoc (puts k now) (only put_key k (put_by e.op e.reply)) (log_puts put_key k log)

    pub log-gives : (a : ℕ) (k : Key) (log : List (Entry (Op P T) (Reply T))) (now : Moment P T) → given a k (after_log (acts_of put_key given_key) now log) ≡ given a k now ++ log_gives given_key a k log
    unfolding after_log after_entry
    log-gives a k [] now = sym (append-nil (given a k now))
    log-gives a k (e ∷ log) now =
        log-gives a k log (after now (acts_of put_key given_key now e.op e.reply))
        ∙ ap (λ xs. xs ++ log_gives given_key a k log) (given-after a k now (acts_of put_key given_key now e.op e.reply) ∙ ap (λ xs. given a k now ++ xs) (parts k a now e.op e.reply).given_is)
        ∙ append_assoc (given a k now) (only given_key k (given_to a e.op e.reply)) (log_gives given_key a k log)
