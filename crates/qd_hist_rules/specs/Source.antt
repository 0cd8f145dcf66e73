-- The source's side of a key: its commits, and how much is kept of it.
use Rattle.std.specs.Prelude.{ℕ, suc, ◌+◌, Bool, false, ◌&&◌, ◌==◌, nat_le, List, [], ◌∷◌, ◌++◌, reverse, length, filter, find, map, sum, Option, Some, None, is_some, option_map, option_to_list, if◌then◌else◌}
use Rattle.qd_scheme.specs.declared.key.Key.{Key}
use Rattle.qd_scheme.specs.declared.key.Event.{Event}
use Rattle.qd_flags.specs.Shown.{Shown, shown, has_begin, since_begin, left_indexes, held_back, or_else, events_of}
use Rattle.qd_sub.specs.Acts.{Subscribed, Unsubscribed, Closed, Came, Gave, Told, Full, is_put, newest_key}
use Rattle.qd_sub.specs.Since.{unbroken, by_since}
use Rattle.qd_sub.specs.Subscriptions.{wanted, kept}
use Rattle.qd_hist_rules.specs.Moments.{HistMoment}

-- the events put for k since it was last unwanted, the newest first; none while it is unwanted
abbrev pub source : Key → HistMoment → List Event
source k now = reverse (kept k now)

-- a commit of a key: its number, the moment just after it, its events with the newest first, and what the source shows then
pub record Commit : Type 0 where
  pub number : ℕ
  pub when : HistMoment
  pub events : List Event
  pub shown : Shown

-- the newest act makes a commit: it puts an event of a wanted key, and the source of that key is then a commit place
abbrev pub commits_now : HistMoment → Bool
commits_now [] = false
commits_now (Came k e ∷ past) = wanted k past && is_some (shown (source k (Came k e ∷ past)))
commits_now (Subscribed a k limit ∷ past) = false
commits_now (Unsubscribed a k ∷ past) = false
commits_now (Closed a ∷ past) = false
commits_now (Gave a k i ∷ past) = false
commits_now (Told w k total ∷ past) = false
commits_now (Full a k ∷ past) = false

-- the number of the last commit of any key; the numbers go on from base
abbrev pub count : ℕ → HistMoment → ℕ
count base [] = base
count base (act ∷ past) = if commits_now (act ∷ past) then suc (count base past) else count base past

-- the newest act puts an event of k
abbrev pub puts_now : Key → HistMoment → Bool
puts_now k [] = false
puts_now k (act ∷ past) = is_put k act

-- the commit of k that the newest act makes; its events are those after the commit place before it
abbrev pub made : ℕ → Key → HistMoment → Option Commit
made base k now =
    if puts_now k now && commits_now now
    then option_map (λ s. record { number = count base now; when = now; events = events_of (source k now); shown = s }) (shown (source k now))
    else None

-- the commits of k, the newest first
abbrev pub commits : ℕ → Key → HistMoment → List Commit
commits base k [] = []
commits base k (act ∷ past) = option_to_list (made base k (act ∷ past)) ++ commits base k past

-- the commit of k that has this number
abbrev pub commit : ℕ → Key → ℕ → HistMoment → Option Commit
commit base k n now = find (λ c. c.number == n) (commits base k now)

-- a snapshot commit: a BEGIN is among its events
abbrev pub is_snapshot : Commit → Bool
is_snapshot c = has_begin c.events

-- the last commit of k since it was last unwanted
abbrev pub last : ℕ → Key → HistMoment → Option Commit
last base k [] = None
last base k (act ∷ past) = if wanted k (act ∷ past) then or_else (made base k (act ∷ past)) (last base k past) else None

-- how many indexes the map of a commit of k has
abbrev pub map_size : Key → Option Commit → ℕ
map_size k None = 0
map_size k (Some c) = length (filter (λ i. nat_le c.shown.floor i) (left_indexes (since_begin (source k c.when))))

-- the wanted keys
abbrev pub wanted_keys : HistMoment → List Key
wanted_keys now = by_since newest_key unbroken wanted now

-- over all wanted keys, the indexes of the last commit's map and the events held back after it
unfoldable pub stock : ℕ → HistMoment → ℕ
stock base now = sum (map (λ k. map_size k (last base k now) + length (held_back (source k now))) (wanted_keys now))
