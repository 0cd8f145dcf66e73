-- What an agent's outbox holds, by the slots of the keys.
use Rattle.std.specs.Prelude.{ℕ, suc, ◌+◌, ◌≡◌, ◌≤◌, ◌<◌, Bool, true, ◌||◌, min, nat_eq, nat_lt, if◌then◌else◌, Option, Some, None, List, [], ◌∷◌, ◌++◌, length, map, drop, slice_index}
use Rattle.std.specs.List.{list_any}
use Rattle.qd_pend.specs.Slots.{EachBelow}
use Rattle.qd_stream.specs.declared.outbox.Waiting.{Waiting}
use Rattle.qd_stream.specs.declared.outbox.SlotLoss.{SlotLoss}
use Rattle.qd_stream.specs.Items.{weight}

-- how many items may wait, those that do, the losses by the first drop, and below which number slots may be used
pub record Outstanding : Type 0 where
  pub cap : ℕ
  pub items : List Waiting
  pub lost : List SlotLoss
  pub slots : ℕ

abbrev pub empty_for : ℕ → Outstanding
empty_for cap = record { cap = cap; items = []; lost = []; slots = 0 }

abbrev pub with_items : Outstanding → List Waiting → Outstanding
with_items o items = record { cap = o.cap; items = items; lost = o.lost; slots = o.slots }

-- a loss of the slot is there
abbrev pub has_lost : List SlotLoss → ℕ → Bool
has_lost lost slot = list_any (λ l. nat_eq slot l.slot) lost

-- the loss of the slot counts so many more
abbrev pub raised : ℕ → ℕ → SlotLoss → SlotLoss
raised slot more l = if nat_eq slot l.slot then record { slot = l.slot; count = min (l.count + more) 18446744073709551615 } else l

-- with so many more lost of the slot, at most 2^64 - 1 in all
unfoldable pub with_lost : List SlotLoss → ℕ → ℕ → List SlotLoss
with_lost lost slot more =
    if has_lost lost slot then map (raised slot more) lost else lost ++ record { slot = slot; count = min more 18446744073709551615 } ∷ []

-- with the first of these lost
abbrev pub with_first_lost : List SlotLoss → List Waiting → List SlotLoss
with_first_lost lost [] = lost
with_first_lost lost (w ∷ ws) = with_lost lost w.slot (weight w.item)

-- with one item more: where `cap` items wait, the oldest is lost
unfoldable pub with_waiting : Outstanding → Waiting → Outstanding
with_waiting o w =
    if nat_lt (length o.items) o.cap
    then record { cap = o.cap; items = o.items ++ w ∷ []; lost = o.lost; slots = o.slots }
    else record { cap = o.cap; items = drop 1 (o.items ++ w ∷ []); lost = with_first_lost o.lost (o.items ++ w ∷ []); slots = o.slots }

abbrev pub first_of : List SlotLoss → Option SlotLoss
first_of [] = None
first_of (l ∷ ls) = Some l

abbrev pub first_loss : Outstanding → Option SlotLoss
first_loss o = first_of o.lost

abbrev pub without_first_loss : Outstanding → Outstanding
without_first_loss o = record { cap = o.cap; items = o.items; lost = drop 1 o.lost; slots = o.slots }

-- an item of the slot waits
abbrev pub has_waiting : List Waiting → ℕ → Bool
has_waiting items slot = list_any (λ w. nat_eq slot w.slot) items

-- something of the slot's key is owed
abbrev pub owes_slot : Outstanding → ℕ → Bool
owes_slot o slot = has_lost o.lost slot || has_waiting o.items slot

-- how many items of the slot there are
unfoldable pub waits_for : List Waiting → ℕ → ℕ
waits_for [] slot = 0
waits_for (w ∷ ws) slot = if nat_eq slot w.slot then suc (waits_for ws slot) else waits_for ws slot

-- the losses of these slots, where each slot has its count
abbrev pub lost_by : List ℕ → List ℕ → List SlotLoss
lost_by losses slots = map (λ slot. record { slot = slot; count = slice_index losses slot }) slots

-- each slot's items are counted, and there is room for every slot below `slots`
pub record IsSound (cap : ℕ) (items : List Waiting) (waits losses : List ℕ) (lossy : List ℕ) (slots : ℕ) : Type 0 where
  pub few : cap < 65536
  pub within : length items ≤ cap
  pub counted : (slot : ℕ) → slice_index waits slot ≡ waits_for items slot
  pub room : (slots ≤ length waits) × (slots ≤ length losses)
  pub used : (slot : ℕ) → has_waiting items slot ≡ true → slot < slots
  pub below : EachBelow slots lossy
