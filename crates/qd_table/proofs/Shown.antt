-- What is read off the parts is what the table shows.
use Rattle.std.proofs.Common.{◌≡◌, inl, inr, ℕ, ◌<◌, ◌≤◌, Bool, true, false, nat_eq, if◌then◌else◌, Option, Some, None, is_some, IfSome, IfNone, length, drop, refl, ap, sym, ◌∙◌, arith, subst}
use Rattle.std.proofs.lemmas.List.{get_or_past}
use Rattle.qd_scheme.specs.declared.key.Key.{Key}
use Rattle.qd_pend.proofs.ListLaws.{equal}
use Rattle.qd_pend.specs.Slots.{first_in}
use Rattle.qd_slots.specs.declared.holds.Hold.{Hold}
use Rattle.qd_slots.specs.Names.{slot_in, name_at}
use Rattle.qd_slots.specs.Holds.{cell_at, order_at, hold_at, limit_in, total_in, is_subscribed, is_kept, is_wanted_cell, subscribed_from}
use Rattle.qd_slots.specs.Views.{view_at, viewing_at, HasSlot}
use Rattle.qd_slots.proofs.NameLaws.{below-or-not}
use Rattle.qd_table.specs.Tables.{Table, slots_in, key_at, slot_for, hold_for, limit_for, order_of, total_for, is_wanted_slot, view_for, queue_of, room_for}
use Rattle.qd_table.specs.Steps.{IsNextAgent}
use Rattle.qd_table.specs.Sound.{IsSound}
use Rattle.qd_table.specs.Stored.{Store, table_of, IsStored}
use Rattle.qd_table.proofs.TableLaws.{true-false, key_at-within}
use Rattle.qd_table.proofs.CellLaws.{wanted-cell, total-cell, next-agent, no-next-agent, beyond-hold, beyond-limit, beyond-total, beyond-wanted, slot-within, first-subscribed, first-kept, first-unkept}

pub tell-slot : {s : Store} {now : Table} → IsStored s → table_of s ≡ now → (k : Key) (o : Option ℕ) → o ≡ slot_in s.names.names k → o ≡ slot_for now k
unfolding slot_for
tell-slot inv e k o h = h ∙ ap (λ t. slot_for t k) e

pub tell-key : {s : Store} {now : Table} → IsStored s → table_of s ≡ now → (slot : ℕ) (o : Option Key) → o ≡ name_at s.names.names slot → o ≡ key_at now slot
unfolding key_at
tell-key inv e slot o h = h ∙ ap (λ t. key_at t slot) e

pub tell-slots : {s : Store} {now : Table} → IsStored s → table_of s ≡ now → (n : ℕ) → n ≡ length s.names.names → n ≡ slots_in now
unfolding slots_in
tell-slots inv e n h = h ∙ ap slots_in e

pub tell-hold : {s : Store} {now : Table} → IsStored s → table_of s ≡ now → (a slot : ℕ) (hold : Hold) → hold ≡ hold_at s.holdings.cells slot a → hold ≡ hold_for now a slot
unfolding hold_for
tell-hold inv e a slot hold h = h ∙ ap (λ t. hold_for t a slot) e

pub tell-limit : {s : Store} {now : Table} → IsStored s → table_of s ≡ now → (a slot : ℕ) (o : Option ℕ) → o ≡ limit_in (cell_at s.holdings.cells slot) a → o ≡ limit_for now a slot
unfolding limit_for
tell-limit inv e a slot o h = h ∙ ap (λ t. limit_for t a slot) e

pub tell-wanted : {s : Store} {now : Table} → IsStored s → table_of s ≡ now → (slot : ℕ) (b : Bool) → slot < length s.holdings.cells → b ≡ is_wanted_cell (cell_at s.holdings.cells slot) → b ≡ is_wanted_slot now slot
tell-wanted inv e slot b l h = h ∙ wanted-cell inv slot l ∙ ap (λ t. is_wanted_slot t slot) e

pub tell-total : {s : Store} {now : Table} → IsStored s → table_of s ≡ now → (slot : ℕ) (o : Option ℕ) → slot < length s.holdings.cells → o ≡ total_in (cell_at s.holdings.cells slot) → o ≡ total_for now slot
tell-total inv e slot o l h = h ∙ total-cell inv slot l ∙ ap (λ t. total_for t slot) e

pub tell-order : {s : Store} {now : Table} → IsStored s → table_of s ≡ now → (a : ℕ) → (order_at s.holdings.orders a).list ≡ order_of now a
unfolding order_of
tell-order inv e a = ap (λ t. order_of t a) e

pub tell-queue : {s : Store} {now : Table} → IsStored s → table_of s ≡ now → (w : ℕ) → (viewing_at s.viewings w).queue.list ≡ queue_of now w
unfolding queue_of
tell-queue inv e w = ap (λ t. queue_of t w) e

pub tell-view : {s : Store} {now : Table} → IsStored s → table_of s ≡ now → (w slot : ℕ) → view_at (viewing_at s.viewings w).views slot ≡ view_for now w slot
unfolding view_for
tell-view inv e w slot = ap (λ t. view_for t w slot) e

-- beyond all slots
pub past-hold : {s : Store} {now : Table} → IsStored s → table_of s ≡ now → (a slot : ℕ) → length s.names.names ≤ slot → is_subscribed (hold_for now a slot) ≡ false
past-hold inv e a slot l = ap is_subscribed (sym (ap (λ t. hold_for t a slot) e) ∙ beyond-hold inv a slot l)

pub past-limit : {s : Store} {now : Table} → IsStored s → table_of s ≡ now → (a slot : ℕ) → length s.names.names ≤ slot → limit_for now a slot ≡ None
past-limit inv e a slot l = sym (ap (λ t. limit_for t a slot) e) ∙ beyond-limit inv a slot l

pub past-total : {s : Store} {now : Table} → IsStored s → table_of s ≡ now → (slot : ℕ) → length s.names.names ≤ slot → total_for now slot ≡ None
past-total inv e slot l = sym (ap (λ t. total_for t slot) e) ∙ beyond-total inv slot l

pub past-wanted : {s : Store} {now : Table} → IsStored s → table_of s ≡ now → (slot : ℕ) → length s.names.names ≤ slot → is_wanted_slot now slot ≡ false
past-wanted inv e slot l = sym (ap (λ t. is_wanted_slot t slot) e) ∙ beyond-wanted inv slot l

-- the next agent
pub tell-next : {s : Store} {now : Table} → IsStored s → table_of s ≡ now → (slot from : ℕ) (o : Option ℕ) → slot < length s.holdings.cells → o ≡ subscribed_from from (drop from (cell_at s.holdings.cells slot).holds) → IfSome o (λ b. IsNextAgent now slot from b)
tell-next inv e slot from o l h = subst (λ (t : Table). IfSome o (λ b. IsNextAgent t slot from b)) e (next-agent inv slot from o l h)

pub tell-no_next : {s : Store} {now : Table} → IsStored s → table_of s ≡ now → (slot from : ℕ) (o : Option ℕ) → slot < length s.holdings.cells → o ≡ subscribed_from from (drop from (cell_at s.holdings.cells slot).holds) → IfNone o ((c : ℕ) → from ≤ c → is_subscribed (hold_for now c slot) ≡ false)
tell-no_next inv e slot from o l h = subst (λ (t : Table). IfNone o ((c : ℕ) → from ≤ c → is_subscribed (hold_for t c slot) ≡ false)) e (no-next-agent inv slot from o l h)

-- the first slots
pub tell-first : {s : Store} {now : Table} → IsStored s → table_of s ≡ now → (a : ℕ) (o : Option ℕ) → o ≡ first_in (order_at s.holdings.orders a).list → IfSome o (λ slot. is_subscribed (hold_for now a slot) ≡ true)
tell-first inv e a o h = subst (λ (t : Table). IfSome o (λ slot. is_subscribed (hold_for t a slot) ≡ true)) e (first-subscribed inv a o h)

pub tell-kept : {s : Store} {now : Table} → IsStored s → table_of s ≡ now → (a : ℕ) (o : Option ℕ) → o ≡ first_in (order_at s.kept a).list → IfSome o (λ slot. is_kept (hold_for now a slot) ≡ true)
tell-kept inv e a o h = subst (λ (t : Table). IfSome o (λ slot. is_kept (hold_for t a slot) ≡ true)) e (first-kept inv a o h)

pub tell-unkept : {s : Store} {now : Table} → IsStored s → table_of s ≡ now → (a : ℕ) (o : Option ℕ) → o ≡ first_in (order_at s.kept a).list → IfNone o ((slot : ℕ) → is_kept (hold_for now a slot) ≡ false)
tell-unkept inv e a o h = subst (λ (t : Table). IfNone o ((slot : ℕ) → is_kept (hold_for t a slot) ≡ false)) e (first-unkept inv a o h)

-- a subscribed slot is a cell's and a watcher's
pub subscribed-name : {s : Store} {now : Table} → IsStored s → table_of s ≡ now → (a slot : ℕ) → is_subscribed (hold_for now a slot) ≡ true → slot < length s.names.names
subscribed-name inv e a slot h = slot-within inv a slot (ap (λ t. is_subscribed (hold_for t a slot)) e ∙ h)

pub named-slot : {s : Store} {now : Table} → IsStored s → table_of s ≡ now → (slot : ℕ) → is_some (key_at now slot) ≡ true → slot < length s.names.names
unfolding key_at
named-slot {s} inv e slot h = elim (below-or-not slot (length s.names.names)) [
  | inl l ↦ l
  | inr m ↦ absurd (true-false (sym h ∙ ap (λ t. is_some (key_at t slot)) (sym e) ∙ ap is_some (get_or_past s.names.names slot None m)))
]

pub cell-of : {s : Store} → IsStored s → (slot : ℕ) → slot < length s.names.names → slot < length s.holdings.cells
cell-of inv slot l = let c = inv.cells in omega arith

pub views-of : {s : Store} → IsStored s → (slot : ℕ) → slot < length s.names.names → HasSlot slot s.viewings
views-of inv slot l w b = let r = inv.views w b in let p = r.0 in let q = r.1 in (omega arith, omega arith)

-- an agent with room is the one that there is room for
pub room-agent : (s : Store) (a : ℕ) → 0 < room_for (table_of s) a → (a ≡ s.agent) × (0 < s.room)
unfolding room_for
room-agent s a h =
    let go : (c : Bool) → nat_eq a s.agent ≡ c → 0 < (if c then s.room else 0) → (a ≡ s.agent) × (0 < s.room) =
    elim [
      | true ↦ λ e l. (equal a s.agent e, l)
      | false ↦ λ e l. absurd (omega (arith, l))
    ] in
    go (nat_eq a s.agent) refl h

pub tell-sound : {s : Store} {now : Table} → IsStored s → table_of s ≡ now → IsSound now
tell-sound inv e = subst (λ (t : Table). IsSound t) e inv.sound

pub keyed-slot : {s : Store} → IsStored s → (slot : ℕ) (k : Key) → name_at s.names.names slot ≡ Some k → slot < length s.names.names
unfolding key_at slots_in
keyed-slot {s} inv slot k h = key_at-within (table_of s) slot k h
