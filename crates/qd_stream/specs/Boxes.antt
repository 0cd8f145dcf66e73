-- What each agent's outbox holds.
use Rattle.std.specs.Prelude.{ℕ, ◌≡◌, ◌<◌, Option, Some, None, List, All, length, max, slice_index_or, slice_set, replicate}
use Rattle.qd_stream.specs.Outboxes.{Outstanding, empty_for}

-- how many items may wait for an agent, and what each agent's outbox holds
pub record Boxes : Type 0 where
  pub cap : ℕ
  pub list : List Outstanding

-- an agent's outbox, if it has one
abbrev pub place_at : List (Option Outstanding) → ℕ → Option Outstanding
place_at boxes agent = slice_index_or boxes agent None

-- an agent without an outbox is owed nothing
abbrev pub box_of : ℕ → Option Outstanding → Outstanding
box_of cap None = empty_for cap
box_of cap (Some o) = o

-- what an agent's outbox holds
abbrev pub box_at : Boxes → ℕ → Outstanding
box_at b agent = slice_index_or b.list agent (empty_for b.cap)

-- with another content of an agent's outbox
abbrev pub with_box : Boxes → ℕ → Outstanding → Boxes
with_box b agent o = record { cap = b.cap; list = slice_set b.list agent o }

-- the outboxes of 128 agents, all empty
abbrev pub empty_boxes : ℕ → Boxes
empty_boxes cap = record { cap = cap; list = replicate 128 (empty_for cap) }

-- with room for the slots below a number
abbrev pub with_slots : Outstanding → ℕ → Outstanding
with_slots o slots = record { cap = o.cap; items = o.items; lost = o.lost; slots = max o.slots slots }

-- there are 128 outboxes, and as many items may wait in each
pub record IsBoxed (cap : ℕ) (boxes : List (Option Outstanding)) : Type 0 where
  pub agents : length boxes ≡ 128
  pub caps : All (λ place. (box_of cap place).cap ≡ cap) boxes
  pub few : cap < 65536
