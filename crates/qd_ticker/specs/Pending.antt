-- Which keys are pending for an agent, and what a Take gives.
use Rattle.std.specs.Prelude.{ℕ, Bool, true, false, ◌&&◌, nat_lt, max, Option, Some, None, List, [], ◌∷◌, take}
use Rattle.std.specs.List.{filter_map}
use Rattle.qd_scheme.specs.declared.key.Key.{Key}
use Rattle.qd_scheme.specs.declared.key.Record.{Record}
use Rattle.qd_sub.specs.Acts.{Moment, is_put, is_gift, newest_key}
use Rattle.qd_sub.specs.Since.{last_place, unbroken, by_since}
use Rattle.qd_sub.specs.Subscriptions.{subscribed, began, kept}

-- the moments of a ticker, in which records are put and given
abbrev pub TickerMoment : Type 0
TickerMoment = Moment Record Record

-- the last item of a list
abbrev pub last : {X : Type 0} → List X → Option X
last [] = None
last (x ∷ []) = Some x
last (x ∷ y ∷ rest) = last (y ∷ rest)

-- the last record of k that is kept
unfoldable pub last_record : Key → TickerMoment → Option Record
last_record k now = last (kept k now)

-- there is an item in the list
abbrev pub has_items : {X : Type 0} → List X → Bool
has_items [] = false
has_items (x ∷ xs) = true

-- a is subscribed to k, a record of k is kept, and a was given none since the later of the beginning of its subscription and the last Put
unfoldable pub pending : ℕ → Key → TickerMoment → Bool
pending a k now =
    subscribed a k now && has_items (kept k now) && nat_lt (last_place (is_gift a k) now) (max (began a k now) (last_place (is_put k) now))

-- the pending keys of a, by the position since which each is pending
unfoldable pub queue_of : ℕ → TickerMoment → List Key
queue_of a now = by_since newest_key unbroken (pending a) now

-- the answer to a Take: the first pending keys, each with the last record put
unfoldable pub taken : ℕ → ℕ → TickerMoment → List Record
taken a most now = filter_map (λ k. last_record k now) (take most (queue_of a now))
