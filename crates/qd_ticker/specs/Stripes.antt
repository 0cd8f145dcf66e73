-- What a ticker's stripe keeps, and the logs for which it stands.
use Rattle.std.specs.Prelude.{ℕ, ◌≡◌, Bool, false, Option, Some, None, List, [], slice_index_or}
use Rattle.qd_scheme.specs.declared.key.Key.{Key}
use Rattle.qd_scheme.specs.declared.key.Record.{Record}
use Rattle.qd_pend.specs.Slots.{SlotList}
use Rattle.qd_table.specs.Tables.{Table, key_at}
use Rattle.qd_table.specs.Standing.{StandsFor}
use Rattle.qd_ticker.specs.Pending.{TickerMoment, last_record}
use Rattle.qd_ticker.specs.Legal.{TickerEntry, moment_of}
use Rattle.qd_ticker.specs.Kept.{IsKept}

-- what a stripe keeps: the subscriptions, the last record of each slot, and for each agent the slots whose keys are pending, in order
pub record Shown : Type 0 where
  pub table : Table
  pub lasts : List (Option Record)
  pub queues : List SlotList

-- the last record of a slot
abbrev pub last_at : List (Option Record) → ℕ → Option Record
last_at lasts slot = slice_index_or lasts slot None

abbrev pub no_queue : SlotList
no_queue = record { list = []; slots = 0 }

-- the pending slots of an agent
abbrev pub queue_at : List SlotList → ℕ → SlotList
queue_at queues a = slice_index_or queues a no_queue

-- a pair is held just while it is subscribed
abbrev pub no_keeps : ℕ → Key → Bool
no_keeps a k = false

-- the stripe stands for a past
pub record StandsAt (s : Shown) (now : TickerMoment) : Type 0 where
  pub table : StandsFor s.table no_keeps now
  pub kept : IsKept (key_at s.table) (last_at s.lasts) (λ a. (queue_at s.queues a).list) now
  pub labels : (k : Key) (r : Record) → last_record k now ≡ Some r → r.key ≡ k

-- the stripe stands for a log
abbrev pub Stands : Shown → List TickerEntry → Type 0
Stands s log = StandsAt s (moment_of log)
