-- How a table is stored.
use Rattle.std.specs.Prelude.{ℕ, ◌≡◌, ◌+◌, ◌^◌, ◌<◌, ◌≤◌, Bool, true, ◌||◌, if◌then◌else◌, Option, None, List, length, slice_set}
use Rattle.qd_scheme.specs.declared.key.Key.{Key}
use Rattle.qd_pend.specs.Slots.{SlotList, has}
use Rattle.qd_slots.specs.declared.holds.Cell.{Cell}
use Rattle.qd_slots.specs.Names.{NameList, named_in}
use Rattle.qd_slots.specs.Holds.{Holdings, cell_at, order_at, hold_at, is_held_cell, is_kept, is_subscribed, IsHolding}
use Rattle.qd_slots.specs.Kept.{with_more}
use Rattle.qd_slots.specs.Views.{Viewing, is_known_by, HasSlots}
use Rattle.qd_table.specs.Tables.{Table}
use Rattle.qd_table.specs.Sound.{IsSound}

-- the parts of a table: the slots of keys and how many keys have one, what agents have of slots, what they keep, what watchers know, and for which agent there is room for how many subscriptions
pub record Store : Type 0 where
  pub names : NameList
  pub named : ℕ
  pub holdings : Holdings
  pub kept : List SlotList
  pub viewings : List Viewing
  pub agent : ℕ
  pub room : ℕ

-- the table that they make
abbrev pub table_of : Store → Table
table_of s = record { names = s.names.names; holdings = s.holdings; viewings = s.viewings; agent = s.agent; room = s.room }

-- the slot is freed where nobody has anything of it and no watcher knows a total of it
abbrev pub without_unused : List (Option Key) → List Cell → List Viewing → ℕ → List (Option Key)
without_unused names cells viewings slot = if is_held_cell (cell_at cells slot) || is_known_by viewings slot then names else slice_set names slot None

-- the agent keeps the slot where it is to
abbrev pub kept_if : List SlotList → ℕ → ℕ → Bool → List SlotList
kept_if kept agent slot keep = if keep then slice_set kept agent (with_more (order_at kept agent) slot) else kept

-- the parts fit together, and there is room for what is promised
pub record IsStored (s : Store) : Type 0 where
  pub sound : IsSound (table_of s)
  pub holding : IsHolding s.holdings.cells s.holdings.orders
  pub limited : (slot : ℕ) → slot < length s.holdings.cells → length (cell_at s.holdings.cells slot).limits ≡ 128
  pub cells : length s.names.names ≤ length s.holdings.cells
  pub watchers : length s.viewings ≡ 8
  pub views : HasSlots (length s.names.names) s.viewings
  pub keepers : length s.kept ≡ 128
  pub kept : (a slot : ℕ) → has (order_at s.kept a).list slot ≡ is_kept (hold_at s.holdings.cells slot a)
  pub keep_room : (a slot : ℕ) → is_subscribed (hold_at s.holdings.cells slot a) ≡ true → slot < (order_at s.kept a).slots
  pub agent : s.agent < 128
  pub order_room : length s.names.names ≤ (order_at s.holdings.orders s.agent).slots
  pub ready : length s.names.names ≤ (order_at s.kept s.agent).slots
  pub names_room : s.room ≤ s.names.room
  pub few_pairs : s.holdings.pairs + s.room < 2 ^ 31
  pub few_keys : s.named + s.room < 2 ^ 31
  pub counted : s.named ≡ length (named_in s.names.names)
