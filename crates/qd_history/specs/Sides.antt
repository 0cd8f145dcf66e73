-- What is kept for an agent of one slot and of all.
use Rattle.std.specs.Prelude.{ℕ, ◌≡◌, ◌⊎◌, ◌≤◌, ◌<◌, ◌+◌, true, false, min, nat_eq, List, length, slice_index_or}
use Rattle.std.specs.List.{sum_by}
use Rattle.qd_slots.specs.Holds.{is_subscribed}
use Rattle.qd_table.specs.Tables.{Table, hold_for}
use Rattle.qd_hist_feed.specs.Feeding.{Feeding, Spared, is_waiting}
use Rattle.qd_hist_stand.specs.Stripes.{Side, no_side, no_feed}
use Rattle.qd_hist_stand.specs.Steps.{Part}

abbrev pub sided_at : List Side → ℕ → Side
sided_at sides a = slice_index_or sides a no_side

-- how far the agent has come with a slot, and the room for what comes to be owed
abbrev pub spared_at : Side → ℕ → Spared
spared_at s slot = slice_index_or s.feeds slot no_feed

abbrev pub part_in : Side → ℕ → Part
part_in s slot = record { feed = (spared_at s slot).now; queue = s.queue.list; owed = s.owed }

abbrev pub owed_count : Spared → ℕ
owed_count f = length f.now.owed

-- what is owed to the agent in all is what is owed of all slots
abbrev pub IsSummed : List Spared → ℕ → Type 0
IsSummed feeds owed = owed ≡ sum_by owed_count feeds

-- of one slot this is kept for the agent; of all others the same, and there is room for as many slots
pub record IsSided (s : Side) (slot : ℕ) (p : Part) (t : Side) : Type 0 where
  pub feed : (spared_at t slot).now ≡ p.feed
  pub others : (i : ℕ) → nat_eq i slot ≡ false → spared_at t i ≡ spared_at s i
  pub queue : t.queue.list ≡ p.queue
  pub owed : t.owed ≡ p.owed
  pub feeds : length t.feeds ≡ length s.feeds
  pub slots : t.queue.slots ≡ s.queue.slots

-- there is room for so many events more to be owed, of which at most `hcap` may be owed; nothing comes to be owed before the snapshot is begun
abbrev pub HasRoom : ℕ → Spared → ℕ → Type 0
HasRoom hcap f n = (is_waiting f.now.stage ≡ true) ⊎ (min hcap (owed_count f + n) ≤ f.spare + owed_count f)

-- room was made for so many events, unless the snapshot is not begun
abbrev pub IsReserved : Spared → ℕ → Type 0
IsReserved f n = (is_waiting f.now.stage ≡ true) ⊎ (n ≤ f.spare)

abbrev pub feed_now : List Spared → ℕ → Feeding
feed_now feeds slot = (slice_index_or feeds slot no_feed).now

-- for an agent the same is kept, but for the room
pub record IsSameSide (s t : Side) : Type 0 where
  pub feeds : (i : ℕ) → (spared_at t i).now ≡ (spared_at s i).now
  pub queue : t.queue.list ≡ s.queue.list
  pub owed : t.owed ≡ s.owed
  pub more : length s.feeds ≤ length t.feeds
  pub slots : s.queue.slots ≤ t.queue.slots

-- each agent that is subscribed to the slot has the part of it that f tells; of the others all is the same
pub record AllSided (t : Table) (slot : ℕ) (f : ℕ → Part → Part) (old new : List Side) : Type 0 where
  pub sides : (a : ℕ) → is_subscribed (hold_for t a slot) ≡ true → IsSided (sided_at old a) slot (f a (part_in (sided_at old a) slot)) (sided_at new a)
  pub others : (a : ℕ) → is_subscribed (hold_for t a slot) ≡ false → sided_at new a ≡ sided_at old a

-- so many events may come to be owed to each agent that is subscribed to the slot
pub record CanFollow (hcap : ℕ) (t : Table) (slot n : ℕ) (sides : List Side) : Type 0 where
  pub feeds : (a : ℕ) → is_subscribed (hold_for t a slot) ≡ true → slot < length (sided_at sides a).feeds
  pub slots : (a : ℕ) → is_subscribed (hold_for t a slot) ≡ true → slot < (sided_at sides a).queue.slots
  pub within : (a : ℕ) → (sided_at sides a).owed ≤ hcap
  pub room : (a : ℕ) → is_subscribed (hold_for t a slot) ≡ true → HasRoom hcap (spared_at (sided_at sides a) slot) n
