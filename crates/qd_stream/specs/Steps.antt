-- What the ops leave of what a stripe keeps.
use Rattle.std.specs.Prelude.{ℕ, zero, suc, ◌≡◌, ◌<◌, ◌⊎◌, true, if◌then◌else◌, MatchBool, Option, Some, None, List, [], ◌∷◌, length, drop, map, take, slice_get}
use Rattle.std.specs.Option.{option_map}
use Rattle.qd_scheme.specs.declared.key.Key.{Key}
use Rattle.qd_buffer.specs.Filled.{with_items}
use Rattle.qd_pend.specs.Slots.{first_in}
use Rattle.qd_sub.specs.declared.sub.Sub.{Sub}
use Rattle.qd_sub.specs.declared.op.Op.TheVariants.{Add, Remove, Close, Put, Take, Watch}
use Rattle.qd_sub.specs.declared.op.Reply.TheVariants.{Done, Items, Wants, TooManyKeys, TooManySubs, NoMemory}
use Rattle.qd_slots.specs.Holds.{is_subscribed}
use Rattle.qd_table.specs.declared.table.SubFault.{SubFault}
use Rattle.qd_table.specs.declared.table.SubFault.TheVariants as faults
use Rattle.qd_table.specs.Tables.{Table, slots_in, key_at, slot_for, hold_for, order_of, queue_of, wants_for, fault_of}
use Rattle.qd_table.specs.Steps.{IsSame, IsSubscribed, IsEnded, IsLetGo, TellsAll}
use Rattle.qd_stream.specs.declared.item.StreamItem.{StreamItem}
use Rattle.qd_stream.specs.declared.item.StreamItem.TheVariants.{Lost}
use Rattle.qd_stream.specs.declared.outbox.Waiting.{Waiting}
use Rattle.qd_stream.specs.declared.outbox.SlotLoss.{SlotLoss}
use Rattle.qd_stream.specs.Items.{key_of_item}
use Rattle.qd_stream.specs.Outboxes as boxes
use Rattle.qd_stream.specs.Outboxes.{Outstanding, with_waiting, first_loss, without_first_loss, owes_slot}
use Rattle.qd_stream.specs.Boxes.{Boxes, box_at, with_box, with_slots}
use Rattle.qd_stream.specs.Legal.{StreamOp, StreamReply}
use Rattle.qd_stream.specs.Stripes.{Shown}

-- an agent was subscribed to these keys in order; limits play no part
unfoldable pub SubscribesAll : Table → ℕ → List Key → Table → Type 0
SubscribesAll old a [] new = old ≡ new
SubscribesAll old a (k ∷ ks) new = (slot : ℕ) × (mid : Table) × IsSubscribed old a k 0 slot mid × SubscribesAll mid a ks new

-- an Add that was done: there is room for what comes for each subscription
pub record IsAdded (old : Shown) (a : ℕ) (keys : List Key) (new : Shown) : Type 0 where
  pub agent : a < 128
  pub mid : Table
  pub same : IsSame old.table mid
  pub subscribed : SubscribesAll mid a keys new.table
  pub boxes : new.boxes ≡ with_box old.boxes a (with_slots (box_at old.boxes a) (slots_in mid))

-- nothing changed but room
pub record IsRefused (old new : Shown) : Type 0 where
  pub table : IsSame old.table new.table
  pub boxes : new.boxes ≡ old.boxes

-- an Add: refused just where too many keys or pairs would be held, else done, or refused for want of memory
abbrev pub AddsBy : Option SubFault → Shown → ℕ → List Sub → StreamReply → Shown → Type 0
AddsBy (Some faults.TooManyKeys) old a subs reply new = (reply ≡ TooManyKeys) × IsRefused old new
AddsBy (Some faults.TooManySubs) old a subs reply new = (reply ≡ TooManySubs) × IsRefused old new
AddsBy (Some faults.NoMemory) old a subs reply new = ⊥
AddsBy None old a subs reply new =
    ((reply ≡ Done) × IsAdded old a (map (λ s. s.key) subs) new) ⊎ ((reply ≡ NoMemory) × IsRefused old new)

abbrev pub Adds : Shown → ℕ → List Sub → StreamReply → Shown → Type 0
Adds old a subs reply new = AddsBy (fault_of old.table a subs) old a subs reply new

-- the end of a subscription: the pair stays held where something of it is owed
pub record IsEndedAt (old : Shown) (a slot : ℕ) (new : Shown) : Type 0 where
  pub subscribed : is_subscribed (hold_for old.table a slot) ≡ true
  pub table : IsEnded old.table a slot (owes_slot (box_at old.boxes a) slot) new.table
  pub boxes : new.boxes ≡ old.boxes

-- after a Remove of one key, which has this slot
abbrev pub RemovesAt : Option ℕ → Shown → ℕ → Shown → Type 0
RemovesAt None old a new = old ≡ new
RemovesAt (Some slot) old a new = MatchBool (is_subscribed (hold_for old.table a slot)) (IsEndedAt old a slot new) (old ≡ new)

-- after a Remove of these keys in order
unfoldable pub RemovesAll : Shown → ℕ → List Key → Shown → Type 0
RemovesAll old a [] new = old ≡ new
RemovesAll old a (k ∷ ks) new = (mid : Shown) × RemovesAt (slot_for old.table k) old a mid × RemovesAll mid a ks new

-- the item waits for each agent that is subscribed to its slot
pub record IsPushed (t : Table) (old : Boxes) (w : Waiting) (new : Boxes) : Type 0 where
  pub cap : new.cap ≡ old.cap
  pub agents : length new.list ≡ length old.list
  pub boxes : (a : ℕ) → box_at new a ≡ (if is_subscribed (hold_for t a w.slot) then with_waiting (box_at old a) w else box_at old a)

-- after a Put of one item, whose key has this slot
abbrev pub PutsAt : Option ℕ → Shown → StreamItem → Shown → Type 0
PutsAt None old item new = old ≡ new
PutsAt (Some slot) old item new = (new.table ≡ old.table) × IsPushed old.table old.boxes (record { slot = slot; item = item }) new.boxes

-- after a Put of these items in order
unfoldable pub PutsAll : Shown → List StreamItem → Shown → Type 0
PutsAll old [] new = old ≡ new
PutsAll old (item ∷ items) new = (mid : Shown) × PutsAt (slot_for old.table (key_of_item item)) old item mid × PutsAll mid items new

-- what an agent is owed has become less by one item of a slot: the pair is let go where no more of it is owed
pub record IsSettled (old : Shown) (a slot : ℕ) (left : Outstanding) (new : Shown) : Type 0 where
  pub boxes : new.boxes ≡ with_box old.boxes a left
  pub table : MatchBool (owes_slot left slot) (old.table ≡ new.table) (IsLetGo old.table a slot new.table)

-- the item that waits longest is given, if there is one
abbrev pub GivesItem : Option Waiting → Shown → ℕ → Option StreamItem → Shown → Type 0
GivesItem None old a given new = (given ≡ None) × (old ≡ new)
GivesItem (Some w) old a given new = (given ≡ Some w.item) × IsSettled old a w.slot (boxes.with_items (box_at old.boxes a) (drop 1 (box_at old.boxes a).items)) new

-- the loss that came first is reported, if there is one
abbrev pub GivesFirst : Option SlotLoss → Shown → ℕ → Option StreamItem → Shown → Type 0
GivesFirst (Some l) old a given new = (given ≡ option_map (λ k. Lost k l.count) (key_at old.table l.slot)) × IsSettled old a l.slot (without_first_loss (box_at old.boxes a)) new
GivesFirst None old a given new = GivesItem (slice_get (box_at old.boxes a).items 0) old a given new

-- an agent is given the first that it is owed, if anything is
abbrev pub Gives : Shown → ℕ → Option StreamItem → Shown → Type 0
Gives old a given new = GivesFirst (first_loss (box_at old.boxes a)) old a given new

-- an agent is given at most so many, one after another
unfoldable pub GivesAll : ℕ → Shown → ℕ → List StreamItem → Shown → Type 0
GivesAll zero old a items new = (items ≡ []) × (old ≡ new)
GivesAll (suc n) old a items new =
    ((items ≡ []) × Gives old a None new) ⊎ ((i : StreamItem) × (rest : List StreamItem) × (mid : Shown) × (items ≡ i ∷ rest) × Gives old a (Some i) mid × GivesAll n mid a rest new)

-- all that an agent is owed is dropped, in so many steps
unfoldable pub DropsAll : ℕ → Shown → ℕ → Shown → Type 0
DropsAll zero old a new = Gives old a None new
DropsAll (suc n) old a new = (i : StreamItem) × (mid : Shown) × Gives old a (Some i) mid × DropsAll n mid a new

-- all subscriptions of an agent end, in the order in which they began, in so many steps
unfoldable pub EndsAll : ℕ → Shown → ℕ → Shown → Type 0
EndsAll zero old a new = (first_in (order_of old.table a) ≡ None) × (old ≡ new)
EndsAll (suc n) old a new = (slot : ℕ) × (mid : Shown) × (first_in (order_of old.table a) ≡ Some slot) × IsEndedAt old a slot mid × EndsAll n mid a new

-- after a Close
pub record IsClosed (old : Shown) (a : ℕ) (new : Shown) : Type 0 where
  pub mid : Shown
  pub subscriptions : ℕ
  pub ended : EndsAll subscriptions old a mid
  pub owed : ℕ
  pub dropped : DropsAll owed mid a new

-- a step: what it replies and what it leaves
unfoldable pub StepsTo : Shown → StreamOp → StreamReply → Shown → Type 0
StepsTo old (Add agent subs) reply new = Adds old agent subs.items reply new
StepsTo old (Remove agent keys) reply new = (reply ≡ Done) × RemovesAll old agent keys.items new
StepsTo old (Close agent) reply new = (reply ≡ Done) × IsClosed old agent new
StepsTo old (Put items) reply new = (reply ≡ Done) × PutsAll old items.items new
StepsTo old (Take agent most out) reply new = (items : List StreamItem) × (reply ≡ Items (with_items out items)) × GivesAll most old agent items new
StepsTo old (Watch watcher most out) reply new =
    (watcher < 8) × (reply ≡ Wants (with_items out (wants_for old.table watcher most))) × TellsAll old.table watcher (take most (queue_of old.table watcher)) new.table × (new.boxes ≡ old.boxes)
