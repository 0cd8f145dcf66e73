-- What is true of the fields of a stripe.
use Rattle.std.specs.Prelude.{ℕ, ◌≡◌, ◌<◌, true, Option, Some, List, length}
use Rattle.qd_scheme.specs.declared.key.Key.{Key}
use Rattle.qd_scheme.specs.declared.key.Record.{Record}
use Rattle.qd_pend.specs.Slots.{SlotList}
use Rattle.qd_slots.specs.Holds.{is_subscribed}
use Rattle.qd_table.specs.Tables.{Table, key_at, hold_for}
use Rattle.qd_ticker.specs.Stripes.{queue_at}

-- there is a queue for each agent, a place for the last record of each slot with a key, and room in an agent's queue for each slot that it is subscribed to
pub record IsSound (table : Table) (lasts : List (Option Record)) (queues : List SlotList) : Type 0 where
  pub agents : length queues ≡ 128
  pub places : (slot : ℕ) (k : Key) → key_at table slot ≡ Some k → slot < length lasts
  pub room : (a slot : ℕ) → is_subscribed (hold_for table a slot) ≡ true → slot < (queue_at queues a).slots
