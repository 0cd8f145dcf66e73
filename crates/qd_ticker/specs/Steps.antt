-- What the calls leave of what a stripe keeps.
use Rattle.std.specs.Prelude.{ℕ, ◌≡◌, ◌≤◌, ◌<◌, false, ◌&&◌, not, nat_eq, if◌then◌else◌, Option, Some, None, is_some, List, [], length, map, max, take}
use Rattle.std.specs.Option.{option_and_then}
use Rattle.qd_scheme.specs.declared.key.Key.{Key}
use Rattle.qd_scheme.specs.declared.key.Record.{Record}
use Rattle.qd_buffer.specs.Filled.{Filled, with_items}
use Rattle.qd_pend.specs.Slots.{SlotList, without, first_in, rest_of}
use Rattle.qd_sub.specs.declared.sub.Sub.{Sub}
use Rattle.qd_sub.specs.declared.op.Op.{Op}
use Rattle.qd_sub.specs.declared.op.Reply.{Reply}
use Rattle.qd_sub.specs.declared.op.Reply.TheVariants.{Done, Items, Wants, TooManyKeys, TooManySubs, NoMemory}
use Rattle.qd_sub.specs.Acts.{Act, Subscribed, Gave}
use Rattle.qd_sub.specs.Logs.{after}
use Rattle.qd_table.specs.declared.table.SubFault.TheVariants.{TooManyKeys as FaultKeys, TooManySubs as FaultSubs}
use Rattle.qd_slots.specs.Holds.{is_subscribed}
use Rattle.qd_table.specs.Tables.{slots_in, slot_for, hold_for, limit_by, is_wanted_slot, queue_of, fault_of}
use Rattle.qd_table.specs.Steps.{IsSame, IsSubscribed, IsEnded, TellsAll}
use Rattle.qd_ticker.specs.Pending.{TickerMoment, taken}
use Rattle.qd_ticker.specs.Legal.{ticker_acts, IsLawful}
use Rattle.qd_ticker.specs.Kept.{with_slot}
use Rattle.qd_ticker.specs.Stripes.{Shown, StandsAt, last_at, queue_at}

-- a queue with the slot, without it, without its first, and with room for more slots
abbrev pub with_queued : SlotList → ℕ → SlotList
with_queued q slot = record { list = with_slot q.list slot; slots = q.slots }

abbrev pub with_dropped : SlotList → ℕ → SlotList
with_dropped q slot = record { list = without q.list slot; slots = q.slots }

abbrev pub with_popped : SlotList → SlotList
with_popped q = record { list = rest_of q.list; slots = q.slots }

abbrev pub with_room : SlotList → ℕ → SlotList
with_room q slots = record { list = q.list; slots = max q.slots slots }

-- a Put of one record: where its key has a slot with agents, it is the slot's last one, and the slot is pending for each of them
pub record IsPut (s : Shown) (r : Record) (t : Shown) : Type 0 where
  pub table : t.table ≡ s.table
  pub nowhere : slot_for s.table r.key ≡ None → t ≡ s
  pub lasts : (slot : ℕ) → slot_for s.table r.key ≡ Some slot → (i : ℕ) → last_at t.lasts i ≡ (if nat_eq slot i && is_wanted_slot s.table slot then Some r else last_at s.lasts i)
  pub queues : (slot : ℕ) → slot_for s.table r.key ≡ Some slot → (a : ℕ) → queue_at t.queues a ≡ (if is_subscribed (hold_for s.table a slot) then with_queued (queue_at s.queues a) slot else queue_at s.queues a)

-- a subscription: a new one finds the slot pending, if it has a last record
pub record IsAdded (s : Shown) (a : ℕ) (k : Key) (slot : ℕ) (t : Shown) : Type 0 where
  pub agent : a < 128
  pub table : IsSubscribed s.table a k 0 slot t.table
  pub lasts : t.lasts ≡ s.lasts
  pub queues : (b : ℕ) → queue_at t.queues b ≡ (if nat_eq a b && (not (is_some (limit_by s.table a k)) && is_some (last_at s.lasts slot)) then with_queued (queue_at s.queues b) slot else queue_at s.queues b)

-- the end of a subscription: the slot is pending no more, and without an agent it has no last record
pub record IsDropped (s : Shown) (a slot : ℕ) (t : Shown) : Type 0 where
  pub table : IsEnded s.table a slot false t.table
  pub lasts : (i : ℕ) → last_at t.lasts i ≡ (if nat_eq slot i && not (is_wanted_slot t.table slot) then None else last_at s.lasts i)
  pub queues : (b : ℕ) → queue_at t.queues b ≡ (if nat_eq a b then with_dropped (queue_at s.queues b) slot else queue_at s.queues b)

-- a gift: the last record of the agent's first pending slot
pub record IsGiven (s : Shown) (a : ℕ) (given : Option Record) (t : Shown) : Type 0 where
  pub first : given ≡ option_and_then (last_at s.lasts) (first_in (queue_at s.queues a).list)
  pub table : t.table ≡ s.table
  pub lasts : t.lasts ≡ s.lasts
  pub queues : (b : ℕ) → queue_at t.queues b ≡ (if nat_eq a b then with_popped (queue_at s.queues b) else queue_at s.queues b)

-- only the room has changed
pub record IsRoomier (s t : Shown) : Type 0 where
  pub table : IsSame s.table t.table
  pub lasts : (i : ℕ) → last_at t.lasts i ≡ last_at s.lasts i
  pub queues : (b : ℕ) → (queue_at t.queues b).list ≡ (queue_at s.queues b).list

-- there is room for each slot, and for an agent to have each of them pending
pub record HasRoom (s : Shown) (a : ℕ) : Type 0 where
  pub lasts : slots_in s.table ≤ length s.lasts
  pub queue : slots_in s.table ≤ (queue_at s.queues a).slots

-- a telling: only the table changes
pub record IsTelling (s : Shown) (w most : ℕ) (t : Shown) : Type 0 where
  pub watcher : w < 8
  pub table : TellsAll s.table w (take most (queue_of s.table w)) t.table
  pub lasts : t.lasts ≡ s.lasts
  pub queues : t.queues ≡ s.queues

-- for each moment for which it stood, the stripe stands for the moment after these acts
abbrev pub Leads : Shown → (TickerMoment → List (Act Record Record)) → Shown → Type 0
Leads s acts t = (now : TickerMoment) → StandsAt s now → StandsAt t (after now (acts now))

-- the acts of an Add
abbrev pub add_acts : ℕ → List Sub → List (Act Record Record)
add_acts a subs = map (λ x. Subscribed a x.key 0) subs

-- the acts of a Take that gave these
abbrev pub gift_acts : ℕ → List Record → List (Act Record Record)
gift_acts a rs = map (λ r. Gave a r.key r) rs

-- an Add: refused just where too many keys or pairs would be held, else done, or refused for want of memory
abbrev pub Adds : Shown → ℕ → List Sub → Reply Record → Shown → Type 0
Adds s a subs Done t = (fault_of s.table a subs ≡ None) × Leads s (λ now. add_acts a subs) t
Adds s a subs TooManyKeys t = (fault_of s.table a subs ≡ Some FaultKeys) × Leads s (λ now. []) t
Adds s a subs TooManySubs t = (fault_of s.table a subs ≡ Some FaultSubs) × Leads s (λ now. []) t
Adds s a subs NoMemory t = (fault_of s.table a subs ≡ None) × Leads s (λ now. []) t
Adds s a subs (Items given) t = ⊥
Adds s a subs (Wants told) t = ⊥

-- a step: for each moment for which the stripe stood, the reply is lawful, and it stands for the moment after its acts
abbrev pub Answers : Shown → Op Record Record → Reply Record → Shown → Type 0
Answers s op reply t = (now : TickerMoment) → StandsAt s now → StandsAt t (after now (ticker_acts now op reply)) × IsLawful now op reply

-- a Take: what is given is what the agent is to be given, in the buffer
abbrev pub Takes : Shown → ℕ → ℕ → Filled Record → Filled Record → Shown → Type 0
Takes s a most old new t = (now : TickerMoment) → StandsAt s now → (new ≡ with_items old (taken a most now)) × StandsAt t (after now (gift_acts a (taken a most now)))
