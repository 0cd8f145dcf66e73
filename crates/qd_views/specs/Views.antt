-- What an agent of a stripe was given of a key, beside what was put, in one log.
use Rattle.std.specs.Prelude.{ℕ, suc, zero, ◌≡◌, ◌≤◌, ◌<◌, ◌⊎◌, Bool, true, false, ◌&&◌, not, min, nat_eq, if◌then◌else◌, Option, Some, None, List, [], ◌∷◌, ◌++◌, length, map, slice_get, AllPairs}
use Rattle.std.specs.List.{filter, sum_by}
use Rattle.qd_scheme.specs.declared.key.Key.{Key}
use Rattle.qd_scheme.specs.declared.key.Record.{Record}
use Rattle.qd_scheme.specs.Keys.{key_eq}
use Rattle.qd_gate.specs.declared.machine.Entry.{Entry}
use Rattle.qd_gate.specs.declared.machine.Terms.{Terms}
use Rattle.qd_sub.specs.Acts.{Act, Subscribed, Unsubscribed, Closed, Came, Gave, Told, Full, Moment, is_pair, is_put, is_gift}
use Rattle.qd_sub.specs.Subscriptions.{subscribed, and_put, kept}
use Rattle.qd_ticker.specs.Pending.{TickerMoment, last, has_items, pending}
use Rattle.qd_ticker.specs.Legal as ticker
use Rattle.qd_stream.specs.declared.item.StreamItem.{StreamItem}
use Rattle.qd_stream.specs.declared.item.StreamItem.TheVariants.{Lost}
use Rattle.qd_stream.specs.Items.{key_of_item, weight}
use Rattle.qd_stream.specs.Waiting.{StreamMoment, matched}
use Rattle.qd_stream.specs.Holding.{is_owed}
use Rattle.qd_stream.specs.Legal as stream
use Rattle.qd_flags.specs.Shown.{Shown, shown}
use Rattle.qd_hist_rules.specs.Moments.{HistMoment, events}
use Rattle.qd_hist_rules.specs.Moments as gifts
use Rattle.qd_hist_rules.specs.Laws.{ShowsOne, last_number}
use Rattle.qd_hist_rules.specs.Legal as history

-- a moment of a log: all that happened up to some act, at the end of a call or within one
pub record IsMomentOf {P T O R : Type 0} (moment : List (Entry O R) → Moment P T) (log : List (Entry O R)) (now : Moment P T) : Type 0 where
  pub later : Moment P T
  pub is : later ++ now ≡ moment log

-- a moment of some legal log of a ticker
pub record IsTickerMoment (terms : Terms) (now : TickerMoment) : Type 0 where
  pub log : List ticker.TickerEntry
  pub legal : ticker.IsLegal terms log
  pub within : IsMomentOf ticker.moment_of log now

-- a moment of some legal log of a stream
pub record IsStreamMoment (terms : Terms) (now : StreamMoment) : Type 0 where
  pub log : List stream.StreamEntry
  pub legal : stream.IsLegal terms log
  pub within : IsMomentOf stream.moment_of log now

-- all items that were put for k, in order
abbrev pub puts : {P T : Type 0} → Key → Moment P T → List P
puts k [] = []
puts k (act ∷ past) = and_put k act (puts k past)

-- these items, and the act's, if it gives a one of k
abbrev pub and_gift : {P T : Type 0} → ℕ → Key → Act P T → List T → List T
and_gift a k (Gave b j item) items = if is_pair a k b j then items ++ item ∷ [] else items
and_gift a k (Subscribed b j limit) items = items
and_gift a k (Unsubscribed b j) items = items
and_gift a k (Closed b) items = items
and_gift a k (Came j item) items = items
and_gift a k (Told w j total) items = items
and_gift a k (Full b j) items = items

-- all items of k that a was given, in order
abbrev pub given : {P T : Type 0} → ℕ → Key → Moment P T → List T
given a k [] = []
given a k (act ∷ past) = and_gift a k act (given a k past)

-- the act begins a subscription of a to k
abbrev pub begins : {P T : Type 0} → ℕ → Key → Act P T → Moment P T → Bool
begins a k act past = subscribed a k (act ∷ past) && not (subscribed a k past)

-- how many subscriptions of a to k began
abbrev pub subscriptions : {P T : Type 0} → ℕ → Key → Moment P T → ℕ
subscriptions a k [] = 0
subscriptions a k (act ∷ past) = if begins a k act past then suc (subscriptions a k past) else subscriptions a k past

-- a subscribed to k once, and that subscription has not ended
pub record IsSteady {P T : Type 0} (a : ℕ) (k : Key) (now : Moment P T) : Type 0 where
  pub still : subscribed a k now ≡ true
  pub once : subscriptions a k now ≡ 1

-- the item at a place of a list, counted from 1
abbrev pub item_at : {X : Type 0} → ℕ → List X → Option X
item_at zero xs = None
item_at (suc i) xs = slice_get xs i

-- The ticker. A record that was put for a key is named by its number: the first one is 1.

-- the origins of the records of k that a was given, in order: of each the number of the last record put before it
abbrev pub origins : ℕ → Key → TickerMoment → List ℕ
origins a k [] = []
origins a k (act ∷ past) = if is_gift a k act then origins a k past ++ length (puts k past) ∷ [] else origins a k past

-- the numbers that an act offers a: where its subscription begins that of the last record, if one is kept; while it holds that of each record put
abbrev pub offers : ℕ → Key → Act Record Record → TickerMoment → List ℕ
offers a k act past =
    if begins a k act past && has_items (kept k past) then length (puts k past) ∷ []
    else if is_put k act && subscribed a k past then suc (length (puts k past)) ∷ []
    else []

-- the numbers of the records of k that a was offered, in order
abbrev pub offered : ℕ → Key → TickerMoment → List ℕ
offered a k [] = []
offered a k (act ∷ past) = offered a k past ++ offers a k act past

-- what is left of a list where some of it is left out
abbrev pub IsPart : {X : Type 0} → List X → List X → Type 0
IsPart xs [] = xs ≡ []
IsPart {X} xs (y ∷ ys) = IsPart xs ys ⊎ ((rest : List X) × (xs ≡ y ∷ rest) × IsPart rest ys)

-- what an agent was given of a key in a ticker
pub record TickerView (a : ℕ) (k : Key) (now : TickerMoment) : Type 0 where
  -- each record is the one that was put with the number of its origin
  pub repeats : map Some (given a k now) ≡ map (λ n. item_at n (puts k now)) (origins a k now)
  -- the origins are a part of what was offered, in its order, and they never go back
  pub part : IsPart (origins a k now) (offered a k now)
  pub never_back : AllPairs ◌≤◌ (origins a k now)
  -- within one subscription they rise
  pub rises : IsSteady a k now → AllPairs ◌<◌ (origins a k now)
  -- and where the key is not pending the last record offered was given
  pub up_to_date : IsSteady a k now → pending a k now ≡ false → last (origins a k now) ≡ last (offered a k now)

abbrev pub TickerLaw : Type 0
TickerLaw = (terms : Terms) (now : TickerMoment) → IsTickerMoment terms now → (a : ℕ) (k : Key) → TickerView a k now

-- The stream.

-- the items of k among these
abbrev pub of_key : Key → List StreamItem → List StreamItem
of_key k items = filter (λ i. key_eq k (key_of_item i)) items

-- an item stands for a run of items of k: it is the one item of the run, or a loss that counts what they weigh, at most 2^64 - 1
abbrev pub StandsFor : Key → StreamItem → List StreamItem → Type 0
StandsFor k item [] = ⊥
StandsFor k item (one ∷ more) = ((more ≡ []) × (item ≡ one)) ⊎ (item ≡ Lost k (min (sum_by weight (one ∷ more)) 18446744073709551615))

-- items account for others: these can be cut into as many runs, so that each item stands for one of them, in order
abbrev pub Accounts : Key → List StreamItem → List StreamItem → Type 0
Accounts k [] all = all ≡ []
Accounts k (item ∷ items) all = (run : List StreamItem) × (rest : List StreamItem) × (all ≡ run ++ rest) × StandsFor k item run × Accounts k items rest

-- the act closes a
abbrev pub closes : {P T : Type 0} → ℕ → Act P T → Bool
closes a (Closed b) = nat_eq a b
closes a (Subscribed b j limit) = false
closes a (Unsubscribed b j) = false
closes a (Came j item) = false
closes a (Gave b j item) = false
closes a (Told w j total) = false
closes a (Full b j) = false

-- the items of k that a was given since it last closed, in order
abbrev pub given_open : {P T : Type 0} → ℕ → Key → Moment P T → List T
given_open a k [] = []
given_open a k (act ∷ past) = if closes a act then [] else and_gift a k act (given_open a k past)

-- what an agent was given of a key in a stream
pub record StreamView (cap a : ℕ) (k : Key) (now : StreamMoment) : Type 0 where
  -- of the items that were put for it, the first are accounted for by what it was given since it last closed
  pub told : List StreamItem
  pub untold : List StreamItem
  pub matched_is : of_key k (matched a now) ≡ told ++ untold
  pub accounts : Accounts k (given_open a k now) told
  -- and all of them where no item of the key waits and no loss of it is unreported
  pub reaches : is_owed cap a k now ≡ false → untold ≡ []

-- where it subscribed once, that is all that it was ever given, and the items are all that were put from some place on
pub record StreamSteady (a : ℕ) (k : Key) (now : StreamMoment) : Type 0 where
  pub before : List StreamItem
  pub puts_is : puts k now ≡ before ++ of_key k (matched a now)
  pub all_given : given_open a k now ≡ given a k now

abbrev pub StreamLaw : Type 0
StreamLaw = (terms : Terms) (now : StreamMoment) → IsStreamMoment terms now → (a : ℕ) (k : Key) → StreamView terms.cap a k now × (IsSteady a k now → StreamSteady a k now)

-- The history.

-- a moment of some legal log of a history
pub record IsHistoryMoment (terms : Terms) (now : HistMoment) : Type 0 where
  pub log : List history.HistoryEntry
  pub legal : history.IsLegal terms log
  pub within : IsMomentOf history.moment_of log now

-- whenever what an agent was given of a key shows whole, its last item has a number, and what it shows is the map of the commit of that number,
-- cut at the floor shown, which is no less than the agent's limit when the snapshot began; no number that it was given is greater
abbrev pub HistoryLaw : Type 0
HistoryLaw = (terms : Terms) (now : HistMoment) → IsHistoryMoment terms now → (a : ℕ) (k : Key) (s : Shown)
    → shown (events (gifts.given a k now)) ≡ Some s → ShowsOne terms a k s now

-- what is shown at a later moment has no smaller number
abbrev pub HistoryNeverBack : Type 0
HistoryNeverBack = (terms : Terms) (later now : HistMoment) → IsHistoryMoment terms (later ++ now) → (a : ℕ) (k : Key) (s t : Shown) (m n : ℕ)
    → shown (events (gifts.given a k now)) ≡ Some s → last_number (gifts.given a k now) ≡ Some m
    → shown (events (gifts.given a k (later ++ now))) ≡ Some t → last_number (gifts.given a k (later ++ now)) ≡ Some n → m ≤ n
