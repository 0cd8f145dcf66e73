-- What a stripe of the history keeps, and for which moments that stands.
use Rattle.std.specs.Prelude.{ℕ, ◌≡◌, ◌≤◌, ◌+◌, Bool, true, false, ◌&&◌, not, nat_le, if◌then◌else◌, Option, Some, None, is_some, List, [], ◌∷◌, length, map, sum, slice_index_or}
use Rattle.qd_scheme.specs.declared.key.Key.{Key}
use Rattle.qd_scheme.specs.declared.key.Event.{Event}
use Rattle.qd_pend.specs.Slots.{SlotList, has, EachOnce}
use Rattle.qd_gate.specs.declared.machine.Terms.{Terms}
use Rattle.qd_flags.specs.declared.commits.Floor.{Floor}
use Rattle.qd_flags.specs.Following as following
use Rattle.qd_slots.specs.Holds.{is_subscribed}
use Rattle.qd_table.specs.Tables.{Table, key_at, keys_at, hold_for, limit_for, order_of}
use Rattle.qd_table.specs.Standing as table
use Rattle.qd_hist_key.specs.Kept.{Kept}
use Rattle.qd_hist_key.specs.Keeping as keeping
use Rattle.qd_hist_rules.specs.declared.floor.AgentFloor.{AgentFloor}
use Rattle.qd_hist_rules.specs.Moments.{HistMoment, events}
use Rattle.qd_hist_rules.specs.Source.{source, Commit, last, count, stock}
use Rattle.qd_hist_rules.specs.Standing.{due_keys}
use Rattle.qd_hist_rules.specs.Lawful.{Lawful}
use Rattle.qd_hist_rules.specs.Legal.{HistoryEntry, terms_of, moment_of}
use Rattle.qd_hist_feed.specs.Feeding.{Feeding, Spared, nothing, is_done}
use Rattle.qd_hist_feed.specs.Stands as feed

-- what is kept of a slot's key: the state of its events, and the number of its last commit
pub record Track : Type 0 where
  pub state : Kept
  pub number : ℕ

-- what is kept for an agent: how far it has come with each slot, the slots that are due in order, and how many events are owed to it in all
pub record Side : Type 0 where
  pub feeds : List Spared
  pub queue : SlotList
  pub owed : ℕ

-- what a stripe keeps: the subscriptions and watchers, a track for each slot, a side for each agent, the number of the last commit of any
-- key, how many events are kept and held back, how many may be owed to an agent, and the number after which commits are numbered
pub record Shown : Type 0 where
  pub table : Table
  pub tracks : List Track
  pub sides : List Side
  pub count : ℕ
  pub stock : ℕ
  pub hcap : ℕ
  pub base : ℕ

abbrev pub no_track : Track
no_track = record { state = record { now = following.nothing; width = None; spare = 0 }; number = 0 }

abbrev pub no_feed : Spared
no_feed = record { now = nothing; spare = 0 }

abbrev pub no_side : Side
no_side = record { feeds = []; queue = record { list = []; slots = 0 }; owed = 0 }

-- what is kept of a slot, and for an agent
abbrev pub state_at : Shown → ℕ → Kept
state_at s slot = (slice_index_or s.tracks slot no_track).state

abbrev pub number_at : Shown → ℕ → ℕ
number_at s slot = (slice_index_or s.tracks slot no_track).number

abbrev pub side_at : Shown → ℕ → Side
side_at s a = slice_index_or s.sides a no_side

-- how far an agent has come with a slot
abbrev pub feed_at : Shown → ℕ → ℕ → Feeding
feed_at s a slot = (slice_index_or (side_at s a).feeds slot no_feed).now

abbrev pub queue_at : Shown → ℕ → List ℕ
queue_at s a = (side_at s a).queue.list

abbrev pub owed_at : Shown → ℕ → ℕ
owed_at s a = (side_at s a).owed

abbrev pub terms_in : Shown → Terms
terms_in s = terms_of s.hcap s.base

-- where a floor meets a limit: the limit, where the floor is not above it; else the floor, where it was snipped there; else they do not fit
abbrev pub floor_by : ℕ → Floor → Option AgentFloor
floor_by limit f =
    if nat_le f.index limit then Some (record { index = limit; by_snip = false })
    else if f.snipped then Some (record { index = f.index; by_snip = true })
    else None

abbrev pub floor_in : Option ℕ → Option Floor → Option AgentFloor
floor_in (Some limit) (Some f) = floor_by limit f
floor_in (Some limit) None = None
floor_in None f = None

-- the floor of an agent on a slot; none where the pair does not fit
abbrev pub floor_at : Shown → ℕ → ℕ → Option AgentFloor
floor_at s a slot = floor_in (limit_for s.table a slot) (state_at s slot).now.floor

-- the slot is due for an agent: the pair fits, and there is something to give
abbrev pub due_at : Shown → ℕ → ℕ → Bool
due_at s a slot = is_some (floor_at s a slot) && not (is_done (feed_at s a slot))

-- how many events are kept and held back of a key
abbrev pub size_of : Kept → ℕ
size_of state = length state.now.entries + length state.now.held

-- a pair is held just while it is subscribed
abbrev pub no_keeps : ℕ → Key → Bool
no_keeps a k = false

-- the events of a slot's key; none of a vacant slot
abbrev pub source_of : Option Key → HistMoment → List Event
source_of None now = []
source_of (Some k) now = source k now

-- the events are all of one key
abbrev pub AllOf : Key → List Event → Type 0
AllOf k [] = Unit {0}
AllOf k (e ∷ es) = (e.key ≡ k) × AllOf k es

-- the feed of an agent and a slot's key; a vacant slot has none
abbrev pub IsFed : Terms → ℕ → Option Key → Feeding → HistMoment → Type 0
IsFed terms a None f now = f ≡ nothing
IsFed terms a (Some k) f now = feed.StandsFor terms a k f now

-- how many events are owed to an agent of these slots
abbrev pub owed_of : Shown → ℕ → List ℕ → ℕ
owed_of s a slots = sum (map (λ slot. length (feed_at s a slot).owed) slots)

-- the stripe stands for a past
pub record StandsAt (s : Shown) (now : HistMoment) : Type 0 where
  pub table : table.StandsFor s.table no_keeps now
  pub lawful : Lawful (terms_in s) now
  pub count_is : s.count ≡ count s.base now
  pub stock_is : s.stock ≡ stock s.base now
  pub states : (slot : ℕ) → keeping.StandsFor (state_at s slot) (source_of (key_at s.table slot) now)
  pub numbers : (slot : ℕ) (k : Key) (c : Commit) → key_at s.table slot ≡ Some k → last s.base k now ≡ Some c → number_at s slot ≡ c.number
  pub feeds : (a slot : ℕ) → IsFed (terms_in s) a (key_at s.table slot) (feed_at s a slot) now
  -- what came for a key and what is owed of a slot's key is of that key
  pub labels : (k : Key) → AllOf k (source k now)
  pub owed_labels : (a slot : ℕ) (k : Key) → key_at s.table slot ≡ Some k → AllOf k (events (feed_at s a slot).owed)
  pub unfed : (a slot : ℕ) → is_subscribed (hold_for s.table a slot) ≡ false → feed_at s a slot ≡ nothing
  pub due : (a slot : ℕ) → has (queue_at s a) slot ≡ due_at s a slot
  pub once : (a : ℕ) → EachOnce (queue_at s a)
  pub order : (a : ℕ) → due_keys (terms_in s) a now ≡ keys_at s.table (queue_at s a)
  pub owed : (a : ℕ) → owed_at s a ≡ owed_of s a (order_of s.table a)
  pub within : (a : ℕ) → owed_at s a ≤ s.hcap

-- the stripe stands for a log
abbrev pub Stands : Shown → List HistoryEntry → Type 0
Stands s log = StandsAt s (moment_of log)

-- a stripe without subscriptions, whose commits are numbered from a number on
abbrev pub IsNew : ℕ → ℕ → Shown → Type 0
IsNew hcap base s = StandsAt s [] × (s.hcap ≡ hcap) × (s.base ≡ base)
