-- What is true of every table.
use Rattle.std.specs.Prelude.{ℕ, ◌≡◌, ◌<◌, ◌≤◌, true, false, Some, is_some, List, [], ◌∷◌, length}
use Rattle.std.specs.List.{list_any}
use Rattle.qd_scheme.specs.declared.key.Key.{Key}
use Rattle.qd_sub.specs.Acts.{is_pair}
use Rattle.qd_pend.specs.Slots.{has, EachOnce}
use Rattle.qd_slots.specs.declared.holds.Hold.TheVariants.{Free}
use Rattle.qd_slots.specs.Holds.{is_subscribed}
use Rattle.qd_slots.specs.Views.{no_view}
use Rattle.qd_table.specs.Tables.{Table, key_at, slot_for, holds_by, hold_for, order_of, pairs_in, view_for, queue_of, differs_for, is_used}

-- no pair stands twice
unfoldable pub EachPairOnce : List (ℕ × Key) → Type 0
EachPairOnce [] = Unit {0}
EachPairOnce (p ∷ ps) = (list_any (λ q. is_pair p.0 p.1 q.0 q.1) ps ≡ false) × EachPairOnce ps

-- a slot has a key just while it is used; orders and queues have the slots that they should have, each once; and any list of the held pairs has as many as the number says
pub record IsSound (t : Table) : Type 0 where
  pub found : (slot : ℕ) (k : Key) → key_at t slot ≡ Some k → slot_for t k ≡ Some slot
  pub used : (slot : ℕ) → is_some (key_at t slot) ≡ is_used t slot
  pub agents : (a slot : ℕ) → 128 ≤ a → hold_for t a slot ≡ Free
  pub watchers : (w slot : ℕ) → 8 ≤ w → view_for t w slot ≡ no_view
  pub ordered : (a slot : ℕ) → has (order_of t a) slot ≡ is_subscribed (hold_for t a slot)
  pub ordered_once : (a : ℕ) → EachOnce (order_of t a)
  pub queued : (w slot : ℕ) → w < 8 → has (queue_of t w) slot ≡ differs_for t w slot
  pub queued_once : (w : ℕ) → w < 8 → EachOnce (queue_of t w)
  pub outdated : (w slot : ℕ) → (view_for t w slot).outdated ≡ true → is_some (view_for t w slot).known ≡ true
  pub counted : (ps : List (ℕ × Key)) → EachPairOnce ps → ((a : ℕ) (k : Key) → list_any (λ q. is_pair a k q.0 q.1) ps ≡ holds_by t a k) → length ps ≡ pairs_in t
