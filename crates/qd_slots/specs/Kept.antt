-- Which slots each agent keeps.
use Rattle.std.specs.Prelude.{ℕ, ◌≡◌, ◌≤◌, List, [], ◌∷◌, ◌++◌, length}
use Rattle.qd_pend.specs.Slots.{SlotList}
use Rattle.qd_slots.specs.Holds.{order_at}

-- with this slot at its end
abbrev pub with_more : SlotList → ℕ → SlotList
with_more queue slot = record { list = queue.list ++ slot ∷ []; slots = queue.slots }

-- the lists stay, and there may be more room
pub record KeepsRoom (old new : List SlotList) : Type 0 where
  pub count : length new ≡ length old
  pub lists : (agent : ℕ) → (order_at new agent).list ≡ (order_at old agent).list
  pub slots : (agent : ℕ) → (order_at old agent).slots ≤ (order_at new agent).slots
