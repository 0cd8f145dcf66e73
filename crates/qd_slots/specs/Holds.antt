-- Which agents hold which slots, and in which order their subscriptions began.
use Rattle.std.specs.Prelude.{ℕ, zero, suc, ◌≡◌, ◌+◌, ◌-◌, ◌≤◌, ◌<◌, Bool, true, false, min, if◌then◌else◌, Option, Some, None, List, [], ◌∷◌, ◌++◌, length, max, replicate, slice_index, slice_index_or, slice_set}
use Rattle.std.specs.List.{list_any}
use Rattle.qd_pend.specs.Slots.{SlotList, has, without}
use Rattle.qd_slots.specs.declared.holds.Hold.{Hold}
use Rattle.qd_slots.specs.declared.holds.Hold.TheVariants.{Free, Kept, Subscribed}
use Rattle.qd_slots.specs.declared.holds.Cell.{Cell}
use Rattle.qd_sub.specs.Subscriptions.{least}

-- what the agents have of each slot, each agent's slots in the order in which its subscriptions began, and how many pairs of an agent and a slot are held
pub record Holdings : Type 0 where
  pub cells : List Cell
  pub orders : List SlotList
  pub pairs : ℕ

abbrev pub no_cell : Cell
no_cell = record { holds = []; limits = [] }

abbrev pub no_order : SlotList
no_order = record { list = []; slots = 0 }

-- what the agents have of a slot
abbrev pub cell_at : List Cell → ℕ → Cell
cell_at cells slot = slice_index_or cells slot no_cell

-- an agent's slots, in order
abbrev pub order_at : List SlotList → ℕ → SlotList
order_at orders agent = slice_index_or orders agent no_order

abbrev pub hold_in : Cell → ℕ → Hold
hold_in cell agent = slice_index_or cell.holds agent Free

abbrev pub is_subscribed : Hold → Bool
is_subscribed Free = false
is_subscribed Kept = false
is_subscribed Subscribed = true

abbrev pub is_held : Hold → Bool
is_held Free = false
is_held Kept = true
is_held Subscribed = true

-- what an agent has of a slot
abbrev pub hold_at : List Cell → ℕ → ℕ → Hold
hold_at cells slot agent = hold_in (cell_at cells slot) agent

-- an agent's limit, while it is subscribed
abbrev pub limit_in : Cell → ℕ → Option ℕ
limit_in cell agent = if is_subscribed (hold_in cell agent) then Some (slice_index cell.limits agent) else None

-- some agent has something of the slot
abbrev pub is_held_cell : Cell → Bool
is_held_cell cell = list_any is_held cell.holds

-- some agent is subscribed to the slot
abbrev pub is_wanted_cell : Cell → Bool
is_wanted_cell cell = list_any is_subscribed cell.holds

-- the limits of the subscribed agents
unfoldable pub limits_of : List Hold → List ℕ → List ℕ
limits_of [] limits = []
limits_of (hold ∷ holds) [] = []
limits_of (hold ∷ holds) (limit ∷ limits) = if is_subscribed hold then limit ∷ limits_of holds limits else limits_of holds limits

-- their least limit
abbrev pub total_in : Cell → Option ℕ
total_in cell = least (limits_of cell.holds cell.limits)

-- the cell with another hold of an agent
abbrev pub with_hold : Cell → ℕ → Hold → Cell
with_hold cell agent hold = record { holds = slice_set cell.holds agent hold; limits = cell.limits }

abbrev pub with_limit : Cell → ℕ → ℕ → Cell
with_limit cell agent limit = record { holds = cell.holds; limits = slice_set cell.limits agent limit }

-- how many pairs are held once one that was held so is subscribed
abbrev pub more_by : Hold → ℕ → ℕ
more_by hold pairs = if is_held hold then pairs else pairs + 1

-- the slot at the end of an order, unless it is there
abbrev pub with_last : Hold → SlotList → ℕ → SlotList
with_last hold order slot = if is_subscribed hold then order else record { list = order.list ++ slot ∷ []; slots = order.slots }

abbrev pub with_less : SlotList → ℕ → SlotList
with_less order slot = record { list = without order.list slot; slots = order.slots }

-- after an agent subscribes to a slot
abbrev pub with_subscription : Holdings → ℕ → ℕ → ℕ → Holdings
with_subscription h agent slot limit = record {
  cells = slice_set h.cells slot (with_limit (with_hold (cell_at h.cells slot) agent Subscribed) agent limit);
  orders = slice_set h.orders agent (with_last (hold_at h.cells slot agent) (order_at h.orders agent) slot);
  pairs = more_by (hold_at h.cells slot agent) h.pairs;
}

-- what an agent has once its subscription ended, and how many pairs are held then
abbrev pub after_end : Bool → Hold
after_end true = Kept
after_end false = Free

abbrev pub less_by : Bool → ℕ → ℕ
less_by true pairs = pairs
less_by false pairs = pairs - 1

-- after a subscription ends; what is kept is still held
abbrev pub with_end : Holdings → ℕ → ℕ → Bool → Holdings
with_end h agent slot keep = record {
  cells = slice_set h.cells slot (with_hold (cell_at h.cells slot) agent (after_end keep));
  orders = slice_set h.orders agent (with_less (order_at h.orders agent) slot);
  pairs = less_by keep h.pairs;
}

abbrev pub is_kept : Hold → Bool
is_kept Free = false
is_kept Kept = true
is_kept Subscribed = false

-- after what was kept is let go
abbrev pub without_kept : Holdings → ℕ → ℕ → Holdings
without_kept h agent slot = if is_kept (hold_at h.cells slot agent) then record {
  cells = slice_set h.cells slot (with_hold (cell_at h.cells slot) agent Free);
  orders = h.orders;
  pairs = h.pairs - 1;
} else h

-- the first subscribed agent of a list of holds, counted from a number on
unfoldable pub subscribed_from : ℕ → List Hold → Option ℕ
subscribed_from agent [] = None
subscribed_from agent (hold ∷ holds) = if is_subscribed hold then Some agent else subscribed_from (suc agent) holds

-- the lesser of two numbers, of those that there are
abbrev pub lesser_of : Option ℕ → Option ℕ → Option ℕ
lesser_of None o = o
lesser_of (Some m) None = Some m
lesser_of (Some m) (Some n) = Some (min m n)

-- a cell of which nobody has anything, and so many of them
abbrev pub free_cell : Cell
free_cell = record { holds = replicate 128 Free; limits = replicate 128 0 }

unfoldable pub free_cells : ℕ → List Cell
free_cells zero = []
free_cells (suc n) = free_cell ∷ free_cells n

-- an order with room for more slots
abbrev pub with_room : SlotList → ℕ → SlotList
with_room order slots = record { list = order.list; slots = max order.slots slots }

-- free cells were added, and orders have more room
pub record IsRoomier (old new : Holdings) : Type 0 where
  pub cells : (n : ℕ) × (new.cells ≡ old.cells ++ free_cells n)
  pub lists : (agent : ℕ) → (order_at new.orders agent).list ≡ (order_at old.orders agent).list
  pub slots : (agent : ℕ) → (order_at old.orders agent).slots ≤ (order_at new.orders agent).slots
  pub pairs : new.pairs ≡ old.pairs

-- each agent's order has just the slots that it is subscribed to, and room for them
pub record IsHolding (cells : List Cell) (orders : List SlotList) : Type 0 where
  pub full : (slot : ℕ) → slot < length cells → length (cell_at cells slot).holds ≡ 128
  pub agents : length orders ≡ 128
  pub ordered : (agent slot : ℕ) → has (order_at orders agent).list slot ≡ is_subscribed (hold_at cells slot agent)
