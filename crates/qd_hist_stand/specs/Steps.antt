-- What each step leaves of what a stripe keeps.
use Rattle.std.specs.Prelude.{ℕ, ◌≡◌, ◌⊎◌, ◌<◌, ◌+◌, ◌-◌, ◌^◌, suc, Bool, true, false, ◌&&◌, not, nat_eq, nat_lt, if◌then◌else◌, Option, Some, None, is_some, List, [], ◌∷◌, length, take}
use Rattle.qd_scheme.specs.declared.key.Key.{Key}
use Rattle.qd_scheme.specs.declared.key.Event.{Event}
use Rattle.qd_pend.specs.Slots.{has, without, first_in}
use Rattle.qd_entries.specs.Entries.{AllBelow}
use Rattle.qd_flags.specs.declared.commits.Ingest.{Ingest}
use Rattle.qd_flags.specs.declared.commits.Ingest.TheVariants.{Ignored, Held, Update, Snapshot}
use Rattle.qd_flags.specs.Following.{answer_to}
use Rattle.qd_slots.specs.Holds.{is_subscribed}
use Rattle.qd_slots.specs.Views.{queued, queued_again}
use Rattle.qd_table.specs.Tables.{key_at, slot_for, hold_for, limit_for, is_wanted_slot, queue_of}
use Rattle.qd_table.specs.Steps.{is_cell, IsSame, IsSubscribed, IsEnded, TellsAll}
use Rattle.qd_hist_key.specs.Kept.{Kept}
use Rattle.qd_hist_key.specs.Keeping as keeping
use Rattle.qd_hist_rules.specs.declared.floor.AgentFloor.{AgentFloor}
use Rattle.qd_hist_rules.specs.declared.item.HistItem.{HistItem}
use Rattle.qd_hist_feed.specs.Feeding.{Feeding, nothing, is_done, owed_items, with_commit, next_item, after_next}
use Rattle.qd_hist_stand.specs.Stripes.{Shown, state_at, number_at, feed_at, queue_at, owed_at, floor_in, floor_at, size_of}

-- what an agent has of one slot: how far it has come with it, the slots that are due for it in order, and how many events are owed to it in all
pub record Part : Type 0 where
  pub feed : Feeding
  pub queue : List ℕ
  pub owed : ℕ

abbrev pub part_at : Shown → ℕ → ℕ → Part
part_at s a slot = record { feed = feed_at s a slot; queue = queue_at s a; owed = owed_at s a }

-- the snapshot is to be begun anew: what was owed of the slot is dropped, and the slot is due if the pair fits
abbrev pub restarted : Option AgentFloor → ℕ → Part → Part
restarted floor slot p = record { feed = nothing; queue = queued p.queue slot (is_some floor); owed = p.owed - length p.feed.owed }

-- how many of a commit's events come to be owed
abbrev pub more_owed : ℕ → ℕ → List Event → Part → ℕ
more_owed floor n batch p = length (owed_items p.feed.stage floor n batch)

-- they come to be owed, and the slot is then due
abbrev pub owing : ℕ → ℕ → List Event → ℕ → Part → Part
owing floor n batch slot p = record {
  feed = with_commit p.feed floor n batch;
  queue = if nat_lt 0 (more_owed floor n batch p) then queued p.queue slot true else p.queue;
  owed = p.owed + more_owed floor n batch p;
}

-- after a commit that is no snapshot commit: where more would be owed to the agent than may be, the snapshot is to be begun anew
abbrev pub updated : ℕ → Option AgentFloor → ℕ → List Event → ℕ → Part → Part
updated hcap None n batch slot p = p
updated hcap (Some f) n batch slot p =
    if nat_lt 0 (more_owed f.index n batch p) && nat_lt hcap (p.owed + more_owed f.index n batch p)
    then restarted (Some f) slot p
    else owing f.index n batch slot p

-- after an event to which the key's state answered so
abbrev pub part_after : ℕ → Ingest → Option AgentFloor → ℕ → List Event → ℕ → Part → Part
part_after hcap Ignored floor n batch slot p = p
part_after hcap Held floor n batch slot p = p
part_after hcap Snapshot floor n batch slot p = restarted floor slot p
part_after hcap Update floor n batch slot p = updated hcap floor n batch slot p

abbrev pub makes_commit : Ingest → Bool
makes_commit Ignored = false
makes_commit Held = false
makes_commit Update = true
makes_commit Snapshot = true

-- the terms, the number of commits and the stock are the same
pub record KeepsNumbers (s t : Shown) : Type 0 where
  pub hcap : t.hcap ≡ s.hcap
  pub base : t.base ≡ s.base
  pub count : t.count ≡ s.count
  pub stock : t.stock ≡ s.stock

-- each agent that is subscribed to the slot has the part of it that f tells; all else that is kept for agents is the same
pub record IsParted (s : Shown) (slot : ℕ) (f : ℕ → Part → Part) (t : Shown) : Type 0 where
  pub feeds : (a i : ℕ) → feed_at t a i ≡ (if nat_eq i slot && is_subscribed (hold_for s.table a slot) then (f a (part_at s a slot)).feed else feed_at s a i)
  pub queues : (a : ℕ) → queue_at t a ≡ (if is_subscribed (hold_for s.table a slot) then (f a (part_at s a slot)).queue else queue_at s a)
  pub owed : (a : ℕ) → owed_at t a ≡ (if is_subscribed (hold_for s.table a slot) then (f a (part_at s a slot)).owed else owed_at s a)

-- an agent's part of a slot is this one; all else that is kept for agents is the same
pub record IsPartOf (s : Shown) (a slot : ℕ) (p : Part) (t : Shown) : Type 0 where
  pub feeds : (b i : ℕ) → feed_at t b i ≡ (if is_cell b i a slot then p.feed else feed_at s b i)
  pub queues : (b : ℕ) → queue_at t b ≡ (if nat_eq b a then p.queue else queue_at s b)
  pub owed : (b : ℕ) → owed_at t b ≡ (if nat_eq b a then p.owed else owed_at s b)

-- nobody is subscribed to the event's key
abbrev pub IsUnwanted : Shown → Event → Type 0
IsUnwanted s e = (slot : ℕ) → slot_for s.table e.key ≡ Some slot → is_wanted_slot s.table slot ≡ false

-- an event of a wanted key came, to which its state answered so
pub record IsPutAt (s : Shown) (e : Event) (slot : ℕ) (answer : Ingest) (t : Shown) : Type 0 where
  pub found : slot_for s.table e.key ≡ Some slot
  pub wanted : is_wanted_slot s.table slot ≡ true
  pub table : t.table ≡ s.table
  pub hcap : t.hcap ≡ s.hcap
  pub base : t.base ≡ s.base
  pub stands : (past : List Event) → keeping.StandsFor (state_at s slot) past → keeping.StandsFor (state_at t slot) (e ∷ past)
  pub answered : (past : List Event) → keeping.StandsFor (state_at s slot) past → answer ≡ answer_to (e ∷ past)
  pub others : (i : ℕ) → nat_eq i slot ≡ false → state_at t i ≡ state_at s i
  pub count : t.count ≡ (if makes_commit answer then suc s.count else s.count)
  pub numbers : (i : ℕ) → number_at t i ≡ (if nat_eq i slot && makes_commit answer then t.count else number_at s i)
  pub stock : t.stock + size_of (state_at s slot) ≡ s.stock + size_of (state_at t slot)
  pub parts : IsParted s slot (λ a p. part_after s.hcap answer (floor_in (limit_for s.table a slot) (state_at t slot).now.floor) t.count (state_at t slot).now.batch slot p) t

-- an event was put: one of an unwanted key is passed over
abbrev pub IsPut : Shown → Event → Shown → Type 0
IsPut s e t = (IsUnwanted s e × (t ≡ s)) ⊎ ((slot : ℕ) × (answer : Ingest) × IsPutAt s e slot answer t)

-- all tracks are the same
pub record KeepsTracks (s t : Shown) : Type 0 where
  pub states : (i : ℕ) → state_at t i ≡ state_at s i
  pub numbers : (i : ℕ) → number_at t i ≡ number_at s i

-- an agent was subscribed to a key: its snapshot is to be begun anew, by the new limit
pub record IsSubscribing (s : Shown) (a : ℕ) (k : Key) (limit slot : ℕ) (t : Shown) : Type 0 where
  pub agent : a < 128
  pub table : IsSubscribed s.table a k limit slot t.table
  pub tracks : KeepsTracks s t
  pub numbers : KeepsNumbers s t
  pub part : IsPartOf s a slot (restarted (floor_at t a slot) slot (part_at s a slot)) t

-- an agent's subscription to a slot was ended; of a key without an agent nothing is kept
pub record IsDropped (s : Shown) (a slot : ℕ) (t : Shown) : Type 0 where
  pub subscribed : is_subscribed (hold_for s.table a slot) ≡ true
  pub table : IsEnded s.table a slot false t.table
  pub hcap : t.hcap ≡ s.hcap
  pub base : t.base ≡ s.base
  pub count : t.count ≡ s.count
  pub stock : t.stock ≡ (if is_wanted_slot t.table slot then s.stock else s.stock - size_of (state_at s slot))
  pub states : (i : ℕ) → (nat_eq i slot && not (is_wanted_slot t.table slot)) ≡ false → state_at t i ≡ state_at s i
  pub cleared : is_wanted_slot t.table slot ≡ false → keeping.StandsFor (state_at t slot) []
  pub numbers : (i : ℕ) → number_at t i ≡ number_at s i
  pub part : IsPartOf s a slot (restarted None slot (part_at s a slot)) t

-- the part of a slot after an item was given of it: without more to give the slot is due no more
abbrev pub after_gift : Kept → AgentFloor → ℕ → Part → Part
after_gift state floor slot p =
    let left : Feeding = after_next p.feed state floor in
    record { feed = left; queue = if is_done left then without p.queue slot else p.queue; owed = (p.owed + length left.owed) - length p.feed.owed }

-- an agent was given the next item of the slot that is due first
pub record IsGiven (s : Shown) (a slot : ℕ) (i : HistItem) (t : Shown) : Type 0 where
  pub key : Key
  pub key_is : key_at s.table slot ≡ Some key
  pub first : first_in (queue_at s a) ≡ Some slot
  pub floor : AgentFloor
  pub floor_is : floor_at s a slot ≡ Some floor
  pub floor_low : floor.index < 2 ^ 64
  pub low : AllBelow (2 ^ 64) (state_at s slot).now.entries
  pub item_is : next_item (feed_at s a slot) key (state_at s slot) floor (number_at s slot) ≡ Some i
  pub table : t.table ≡ s.table
  pub tracks : KeepsTracks s t
  pub numbers : KeepsNumbers s t
  pub part : IsPartOf s a slot (after_gift (state_at s slot) floor slot (part_at s a slot)) t

-- items given one after another
unfoldable pub GivesAll : Shown → ℕ → List HistItem → Shown → Type 0
GivesAll s a [] t = s ≡ t
GivesAll s a (i ∷ is) t = (slot : ℕ) × (mid : Shown) × IsGiven s a slot i mid × GivesAll mid a is t

-- a slot that had its turn comes last, if it is due
pub record IsTurned (s : Shown) (a slot : ℕ) (t : Shown) : Type 0 where
  pub table : t.table ≡ s.table
  pub tracks : KeepsTracks s t
  pub numbers : KeepsNumbers s t
  pub feeds : (b i : ℕ) → feed_at t b i ≡ feed_at s b i
  pub queues : (b : ℕ) → queue_at t b ≡ (if nat_eq b a then queued_again (queue_at s b) slot (has (queue_at s b) slot) else queue_at s b)
  pub owed : (b : ℕ) → owed_at t b ≡ owed_at s b

-- a watcher was told: only the table changes
pub record IsTelling (s : Shown) (w most : ℕ) (t : Shown) : Type 0 where
  pub watcher : w < 8
  pub table : TellsAll s.table w (take most (queue_of s.table w)) t.table
  pub tracks : KeepsTracks s t
  pub numbers : KeepsNumbers s t
  pub feeds : (b i : ℕ) → feed_at t b i ≡ feed_at s b i
  pub queues : (b : ℕ) → queue_at t b ≡ queue_at s b
  pub owed : (b : ℕ) → owed_at t b ≡ owed_at s b

-- only the room has changed
pub record IsRoomier (s t : Shown) : Type 0 where
  pub table : IsSame s.table t.table
  pub states : (i : ℕ) → (state_at t i).now ≡ (state_at s i).now
  pub widths : (i : ℕ) → (state_at t i).width ≡ (state_at s i).width
  pub track_numbers : (i : ℕ) → number_at t i ≡ number_at s i
  pub numbers : KeepsNumbers s t
  pub feeds : (b i : ℕ) → feed_at t b i ≡ feed_at s b i
  pub queues : (b : ℕ) → queue_at t b ≡ queue_at s b
  pub owed : (b : ℕ) → owed_at t b ≡ owed_at s b
