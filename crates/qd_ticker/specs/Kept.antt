-- What a ticker keeps by slots: the last record of each slot, and for each agent the slots whose keys are pending.
use Rattle.std.specs.Prelude.{ℕ, ◌≡◌, Bool, false, if◌then◌else◌, Option, Some, None, List, [], ◌∷◌, ◌++◌}
use Rattle.std.specs.List.{filter_map}
use Rattle.qd_scheme.specs.declared.key.Key.{Key}
use Rattle.qd_scheme.specs.declared.key.Record.{Record}
use Rattle.qd_pend.specs.Slots.{has, EachOnce}
use Rattle.qd_sub.specs.Subscriptions.{wanted}
use Rattle.qd_ticker.specs.Pending.{TickerMoment, last_record, pending, queue_of}

-- the slot at the end of a list, unless it is there
abbrev pub with_slot : List ℕ → ℕ → List ℕ
with_slot list slot = if has list slot then list else list ++ slot ∷ []

-- the key of the slot is pending for a; a slot without a key never is
abbrev pub pending_name : ℕ → Option Key → TickerMoment → Bool
pending_name a None now = false
pending_name a (Some k) now = pending a k now

-- the last record of the slot's key; a slot without a key has none
abbrev pub last_name : Option Key → TickerMoment → Option Record
last_name None now = None
last_name (Some k) now = last_record k now

-- with the key of each slot: each slot has the last record of its key, and each agent's queue the slots of its pending keys, in their order
pub record IsKept (name : ℕ → Option Key) (lasts : ℕ → Option Record) (queues : ℕ → List ℕ) (now : TickerMoment) : Type 0 where
  pub records : (slot : ℕ) → lasts slot ≡ last_name (name slot) now
  pub waiting : (a slot : ℕ) → has (queues a) slot ≡ pending_name a (name slot) now
  pub once : (a : ℕ) → EachOnce (queues a)
  pub order : (a : ℕ) → queue_of a now ≡ filter_map name (queues a)

-- no key, or one that nobody is subscribed to
abbrev pub IsIdle : Option Key → TickerMoment → Type 0
IsIdle None now = Unit {0}
IsIdle (Some k) now = wanted k now ≡ false
