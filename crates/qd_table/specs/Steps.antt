-- What each call leaves of a table, slot by slot.
use Rattle.std.specs.Prelude.{ℕ, ◌≡◌, ◌⊎◌, ◌<◌, ◌≤◌, ◌-◌, Bool, true, false, ◌&&◌, not, nat_eq, if◌then◌else◌, Some, None, List, [], ◌∷◌}
use Rattle.qd_scheme.specs.declared.key.Key.{Key}
use Rattle.qd_sub.specs.declared.sub.Sub.{Sub}
use Rattle.qd_pend.specs.Slots.{without, first_in}
use Rattle.qd_slots.specs.declared.holds.Hold.TheVariants.{Free, Subscribed}
use Rattle.qd_slots.specs.Views.{view_after, view_told, queued, queued_again}
use Rattle.qd_table.specs.declared.table.SubFault.{SubFault}
use Rattle.qd_table.specs.declared.table.SubFault.TheVariants.{TooManyKeys, TooManySubs, NoMemory}
use Rattle.qd_slots.specs.Holds.{after_end, is_kept, is_subscribed, more_by, less_by}
use Rattle.qd_table.specs.Sound.{IsSound}
use Rattle.qd_table.specs.Tables.{Table, slots_in, key_at, slot_for, hold_for, limit_for, order_of, total_for, pairs_in, view_for, queue_of, differs_for, total_to_tell, is_used, room_for, fault_of}

-- these two and those two are the same
abbrev pub is_cell : ℕ → ℕ → ℕ → ℕ → Bool
is_cell b i a slot = nat_eq b a && nat_eq i slot

-- the key has this slot, or the slot is vacant and the key has none
abbrev pub IsSlotFor : Table → Key → ℕ → Type 0
IsSlotFor t k slot = (slot_for t k ≡ Some slot) ⊎ ((slot_for t k ≡ None) × (key_at t slot ≡ None))

-- all is the same but for the room, and for vacant slots
pub record IsSame (old new : Table) : Type 0 where
  pub slots : slots_in old ≤ slots_in new
  pub names : (i : ℕ) → key_at new i ≡ key_at old i
  pub finds : (k : Key) → slot_for new k ≡ slot_for old k
  pub holds : (b i : ℕ) → hold_for new b i ≡ hold_for old b i
  pub limits : (b i : ℕ) → limit_for new b i ≡ limit_for old b i
  pub orders : (b : ℕ) → order_of new b ≡ order_of old b
  pub pairs : pairs_in new ≡ pairs_in old
  pub views : (w i : ℕ) → view_for new w i ≡ view_for old w i
  pub queues : (w : ℕ) → queue_of new w ≡ queue_of old w

-- an agent was subscribed to a key, at its slot
pub record IsSubscribed (old : Table) (a : ℕ) (k : Key) (limit slot : ℕ) (new : Table) : Type 0 where
  pub found : IsSlotFor old k slot
  pub within : slot < slots_in new
  pub slots : slots_in new ≡ slots_in old
  pub room : room_for new a ≡ room_for old a - 1
  pub pairs : pairs_in new ≡ more_by (hold_for old a slot) (pairs_in old)
  pub names : (i : ℕ) → key_at new i ≡ (if nat_eq i slot then Some k else key_at old i)
  pub holds : (b i : ℕ) → hold_for new b i ≡ (if is_cell b i a slot then Subscribed else hold_for old b i)
  pub limits : (b i : ℕ) → limit_for new b i ≡ (if is_cell b i a slot then Some limit else limit_for old b i)
  pub orders : (b : ℕ) → order_of new b ≡ (if nat_eq b a then queued (order_of old b) slot true else order_of old b)
  pub views : (w i : ℕ) → view_for new w i ≡ view_for old w i
  pub queues : (w : ℕ) → w < 8 → queue_of new w ≡ queued (queue_of old w) slot (differs_for new w slot)

-- the slot belongs to its key as long as it is used
abbrev pub KeepsUsed : Table → ℕ → Table → Type 0
KeepsUsed old slot new = (i : ℕ) → key_at new i ≡ (if nat_eq i slot && not (is_used new slot) then None else key_at old i)

-- an agent's subscription to a slot was ended; where `keep` says so, the pair is still held
pub record IsEnded (old : Table) (a slot : ℕ) (keep : Bool) (new : Table) : Type 0 where
  pub slots : slots_in new ≡ slots_in old
  pub room : (b : ℕ) → room_for new b ≡ room_for old b
  pub pairs : pairs_in new ≡ less_by keep (pairs_in old)
  pub names : KeepsUsed old slot new
  pub holds : (b i : ℕ) → hold_for new b i ≡ (if is_cell b i a slot then after_end keep else hold_for old b i)
  pub limits : (b i : ℕ) → limit_for new b i ≡ (if is_cell b i a slot then None else limit_for old b i)
  pub orders : (b : ℕ) → order_of new b ≡ (if nat_eq b a then without (order_of old b) slot else order_of old b)
  pub views : (w i : ℕ) → view_for new w i ≡ (if nat_eq i slot then view_after (view_for old w i) (total_for new slot) else view_for old w i)
  pub queues : (w : ℕ) → w < 8 → queue_of new w ≡ queued (queue_of old w) slot (differs_for new w slot)

-- what an agent kept of a slot was let go; a subscription stays
pub record IsLetGo (old : Table) (a slot : ℕ) (new : Table) : Type 0 where
  pub slots : slots_in new ≡ slots_in old
  pub room : (b : ℕ) → room_for new b ≡ room_for old b
  pub pairs : pairs_in new ≡ (if is_kept (hold_for old a slot) then pairs_in old - 1 else pairs_in old)
  pub names : KeepsUsed old slot new
  pub holds : (b i : ℕ) → hold_for new b i ≡ (if is_cell b i a slot && is_kept (hold_for old b i) then Free else hold_for old b i)
  pub limits : (b i : ℕ) → limit_for new b i ≡ limit_for old b i
  pub orders : (b : ℕ) → order_of new b ≡ order_of old b
  pub views : (w i : ℕ) → view_for new w i ≡ view_for old w i
  pub queues : (w : ℕ) → queue_of new w ≡ queue_of old w

-- a watcher was told what it is to be told of a slot
pub record IsTold (old : Table) (w slot : ℕ) (new : Table) : Type 0 where
  pub slots : slots_in new ≡ slots_in old
  pub room : (b : ℕ) → room_for new b ≡ room_for old b
  pub pairs : pairs_in new ≡ pairs_in old
  pub names : KeepsUsed old slot new
  pub holds : (b i : ℕ) → hold_for new b i ≡ hold_for old b i
  pub limits : (b i : ℕ) → limit_for new b i ≡ limit_for old b i
  pub orders : (b : ℕ) → order_of new b ≡ order_of old b
  pub views : (v i : ℕ) → view_for new v i ≡ (if is_cell v i w slot then view_told (total_to_tell old w slot) else view_for old v i)
  pub queues : (v : ℕ) → queue_of new v ≡ (if nat_eq v w then queued_again (queue_of old v) slot (differs_for new v slot) else queue_of old v)

-- one after another
unfoldable pub SubscribesAll : Table → ℕ → List Sub → Table → Type 0
SubscribesAll old a [] new = old ≡ new
SubscribesAll old a (s ∷ subs) new = (slot : ℕ) × (mid : Table) × IsSubscribed old a s.key s.limit slot mid × SubscribesAll mid a subs new

unfoldable pub EndsAll : Table → ℕ → List ℕ → Table → Type 0
EndsAll old a [] new = old ≡ new
EndsAll old a (slot ∷ slots) new = (is_subscribed (hold_for old a slot) ≡ true) × (mid : Table) × IsEnded old a slot false mid × EndsAll mid a slots new

unfoldable pub LetsAllGo : Table → ℕ → List ℕ → Table → Type 0
LetsAllGo old a [] new = old ≡ new
LetsAllGo old a (slot ∷ slots) new = (is_kept (hold_for old a slot) ≡ true) × (mid : Table) × IsLetGo old a slot mid × LetsAllGo mid a slots new

unfoldable pub TellsAll : Table → ℕ → List ℕ → Table → Type 0
TellsAll old w [] new = old ≡ new
TellsAll old w (slot ∷ slots) new = (mid : Table) × IsTold old w slot mid × TellsAll mid w slots new

-- a watcher was told of the first slot that differs
pub record ToldFirst (old : Table) (w : ℕ) (new : Table) : Type 0 where
  pub slot : ℕ
  pub first : first_in (queue_of old w) ≡ Some slot
  pub told : IsTold old w slot new
  pub sound : IsSound old
  pub within : w < 8

-- the reason for which this fault was told
abbrev pub IsCause : Table → ℕ → List Sub → SubFault → Type 0
IsCause t a subs TooManyKeys = fault_of t a subs ≡ Some TooManyKeys
IsCause t a subs TooManySubs = fault_of t a subs ≡ Some TooManySubs
IsCause t a subs NoMemory = fault_of t a subs ≡ None

-- an agent was subscribed to these in order, with room made before
pub record IsAdded (old : Table) (a : ℕ) (subs : List Sub) (new : Table) : Type 0 where
  pub allowed : fault_of old a subs ≡ None
  pub mid : Table
  pub same : IsSame old mid
  pub added : SubscribesAll mid a subs new

-- all that an agent kept was let go
pub record LetsGo (old : Table) (a : ℕ) (new : Table) : Type 0 where
  pub slots : List ℕ
  pub gone : LetsAllGo old a slots new
  pub none : (slot : ℕ) → is_kept (hold_for new a slot) ≡ false

-- all subscriptions of an agent were ended in the order in which they began, and what it kept was let go
pub record IsClosed (old : Table) (a : ℕ) (new : Table) : Type 0 where
  pub mid : Table
  pub ended : EndsAll old a (order_of old a) mid
  pub let_go : LetsGo mid a new

-- an agent's subscription to a key was ended, if it had one
pub record IsRemoved (old : Table) (a : ℕ) (k : Key) (keep : Bool) (new : Table) : Type 0 where
  pub absent : (slot_for old k ≡ None) → old ≡ new
  pub other : (slot : ℕ) → slot_for old k ≡ Some slot → is_subscribed (hold_for old a slot) ≡ false → old ≡ new
  pub ended : (slot : ℕ) → slot_for old k ≡ Some slot → is_subscribed (hold_for old a slot) ≡ true → IsEnded old a slot keep new

-- what an agent kept of a key was let go
pub record IsLetGoBy (old : Table) (a : ℕ) (k : Key) (new : Table) : Type 0 where
  pub absent : (slot_for old k ≡ None) → old ≡ new
  pub let_go : (slot : ℕ) → slot_for old k ≡ Some slot → IsLetGo old a slot new

-- the next agent, from a number on, that is subscribed to a slot
pub record IsNextAgent (t : Table) (slot from b : ℕ) : Type 0 where
  pub within : b < 128
  pub after : from ≤ b
  pub subscribed : is_subscribed (hold_for t b slot) ≡ true
  pub none_before : (c : ℕ) → from ≤ c → c < b → is_subscribed (hold_for t c slot) ≡ false
