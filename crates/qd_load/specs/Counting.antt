-- How what was given is counted, stripe by stripe.
use Rattle.std.specs.Prelude.{ℕ, zero, suc, ◌≡◌, ◌+◌, ◌-◌, ◌^◌, min, Bool, true, false, List, [], ◌∷◌, map, length, Option, Some, slice_get, slice_set}
use Rattle.qd_scheme.specs.declared.key.Key.{Key}
use Rattle.qd_scheme.specs.declared.key.Event.{Event}
use Rattle.qd_entries.specs.declared.Entry.{Entry as MapEntry}
use Rattle.qd_entries.specs.Entries.{Falls, cells_at}
use Rattle.qd_flags.specs.Following.{Following, StandsFor, map_at}
use Rattle.qd_flags.specs.Shown.{Shown, last_shown}
use Rattle.qd_stream.specs.declared.item.StreamItem.{StreamItem}
use Rattle.qd_hub.specs.Hubs.{TickerPass, StreamPass, HistoryPass}
use Rattle.qd_tape.specs.Scripts.{fed_key, ten_digits}
use Rattle.qd_load.specs.Given.{given, records_in, lost_in, events_given, of_key}

-- a count stands still at the end of its type
abbrev pub stopped : ℕ → ℕ
stopped n = min n (2 ^ 64 - 1)

-- at this stripe so much was counted
abbrev pub IsCounted : List ℕ → ℕ → ℕ → Type 0
IsCounted counts i n = slice_get counts i ≡ Some (stopped n)

-- the listener of a key
pub record Shelf : Type 0 where
  pub key : Key
  pub listener : Following

-- the keys of the script's history
abbrev pub script_keys : List Key
script_keys = map (λ digit. fed_key 2 digit) ten_digits

-- each listener was fed with the events of its key
abbrev pub AreFed : List Shelf → List Event → Type 0
AreFed [] past = Unit {0}
AreFed (s ∷ shelves) past = StandsFor s.listener (of_key s.key past) × AreFed shelves past

-- the listener at a place heard an event where it is of its key, unless memory was wanted; no other one changed
pub record HearsAt (before : List Shelf) (i : ℕ) (e : Event) (heard : Bool) (after : List Shelf) : Type 0 where
  pub x : Shelf
  pub y : Shelf
  pub there : slice_get before i ≡ Some x
  pub after_is : after ≡ slice_set before i y
  pub key : y.key ≡ x.key
  pub fed : (past : List Event) → heard ≡ true → StandsFor x.listener (of_key x.key past) → StandsFor y.listener (of_key x.key (e ∷ past))

-- the first i listeners heard one event more than the others
abbrev pub FedTo : ℕ → Event → List Shelf → List Event → Type 0
FedTo zero e shelves past = AreFed shelves past
FedTo (suc i) e [] past = Unit {0}
FedTo (suc i) e (s ∷ shelves) past = StandsFor s.listener (of_key s.key (e ∷ past)) × FedTo i e shelves past

-- the listeners of a stripe, and whether an event was missed for want of memory
pub record Views : Type 0 where
  pub shelves : List Shelf
  pub missed : Bool

-- the listeners of the script's keys were fed with these events, unless one was missed
pub record IsFed (v : Views) (past : List Event) : Type 0 where
  pub keys : map (λ s. s.key) v.shelves ≡ script_keys
  pub fed : v.missed ≡ false → AreFed v.shelves past

abbrev pub IsFedAt : List Views → ℕ → List Event → Type 0
IsFedAt views i past = (v : Views) × (slice_get views i ≡ Some v) × IsFed v past

-- beside what a hub stands for on a stripe: what was given there is counted
abbrev pub CountsRecords : (ℕ → TickerPass → Type 0) → List ℕ → ℕ → TickerPass → Type 0
CountsRecords stands counts i p = stands i p × IsCounted counts i (length (given p.mine))

-- at this stripe these items were counted: the records, and those that are told as lost
pub record AreCounted (counts gone : List ℕ) (i : ℕ) (items : List StreamItem) : Type 0 where
  pub records : IsCounted counts i (records_in items)
  pub lost : IsCounted gone i (lost_in items)

abbrev pub CountsItems : (ℕ → StreamPass → Type 0) → List ℕ → List ℕ → ℕ → StreamPass → Type 0
CountsItems stands counts lost i p = stands i p × AreCounted counts lost i (given p.mine)

abbrev pub HearsEvents : (ℕ → HistoryPass → Type 0) → List Views → ℕ → HistoryPass → Type 0
HearsEvents stands views i p = stands i p × IsFedAt views i (events_given p.mine)

-- how many indexes a map has: it is that of so many entries
abbrev pub HasSize : Option Shown → ℕ → Type 0
HasSize shown n = (entries : List MapEntry) × Falls entries × ((q : ℕ) → cells_at entries q ≡ map_at shown q) × (n ≡ length entries)

-- over these keys, how many indexes the maps have that the events of each show at their last commit place
abbrev pub HaveSizes : List Key → List Event → ℕ → Type 0
HaveSizes [] past n = n ≡ 0
HaveSizes (k ∷ keys) past n = (a : ℕ) × (b : ℕ) × HasSize (last_shown (of_key k past)) a × HaveSizes keys past b × (n ≡ a + b)

-- the sum over n stripes from this one on
abbrev pub sum_from : ℕ → ℕ → (ℕ → ℕ) → ℕ
sum_from i zero f = 0
sum_from i (suc n) f = f i + sum_from (suc i) n f

-- what a hub that counts keeps: the hub, and the counts and listeners of each stripe
pub record Seen (H : Type 0) : Type 0 where
  pub hub : H
  pub records : List ℕ
  pub items : List ℕ
  pub lost : List ℕ
  pub views : List Views

-- how many entries the maps of listeners have
abbrev pub entries_of : List Shelf → ℕ
entries_of [] = 0
entries_of (s ∷ shelves) = length s.listener.entries + entries_of shelves

abbrev pub entries_in : List Views → ℕ
entries_in [] = 0
entries_in (v ∷ views) = entries_of v.shelves + entries_in views

-- no event was missed
abbrev pub NoneMissed : List Views → Type 0
NoneMissed [] = Unit {0}
NoneMissed (v ∷ views) = (v.missed ≡ false) × NoneMissed views
