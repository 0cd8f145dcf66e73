-- How what an outbox holds by slots is what an agent is owed by keys.
use Rattle.std.specs.Prelude.{ℕ, ◌≡◌, Bool, true, nat_eq, map, All}
use Rattle.qd_scheme.specs.declared.key.Key.{Key}
use Rattle.qd_scheme.specs.Keys.{key_eq}
use Rattle.qd_stream.specs.declared.outbox.Waiting.{Waiting}
use Rattle.qd_stream.specs.declared.outbox.SlotLoss.{SlotLoss}
use Rattle.qd_stream.specs.Items.{key_of_item}
use Rattle.qd_stream.specs.Owed.{Loss, Owed}
use Rattle.qd_stream.specs.Outboxes.{Outstanding}

-- the loss of a slot is that of its key
abbrev pub named : (ℕ → Key) → SlotLoss → Loss
named name l = record { key = name l.slot; count = l.count }

-- what is owed, where each slot has this key
unfoldable pub keyed : (ℕ → Key) → Outstanding → Owed
keyed name o = record { items = map (λ w. w.item) o.items; lost = map (named name) o.lost }

-- the item is of its slot's key, and the slot is in use
abbrev pub IsLabelled : (ℕ → Key) → (ℕ → Bool) → Waiting → Type 0
IsLabelled name used w = (key_of_item w.item ≡ name w.slot) × (used w.slot ≡ true)

-- each item is labelled, each loss is of a slot in use, and different slots in use have different keys
pub record IsNamed (name : ℕ → Key) (used : ℕ → Bool) (o : Outstanding) : Type 0 where
  pub items : All (IsLabelled name used) o.items
  pub lost : All (λ l. used l.slot ≡ true) o.lost
  pub apart : (s t : ℕ) → used s ≡ true → used t ≡ true → key_eq (name s) (name t) ≡ nat_eq s t
