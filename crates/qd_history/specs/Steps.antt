-- What the ops leave of what a stripe keeps.
use Rattle.std.specs.Prelude.{ℕ, zero, suc, ◌≡◌, ◌<◌, ◌≤◌, ◌+◌, ◌^◌, ◌⊎◌, Bool, true, false, nat_lt, MatchBool, Option, Some, None, List, [], ◌∷◌, length, map}
use Rattle.qd_scheme.specs.declared.key.Key.{Key}
use Rattle.qd_scheme.specs.declared.key.Event.{Event}
use Rattle.qd_buffer.specs.Filled.{with_items}
use Rattle.qd_pend.specs.Slots.{first_in}
use Rattle.qd_sub.specs.declared.sub.Sub.{Sub}
use Rattle.qd_sub.specs.declared.op.Op.TheVariants.{Add, Remove, Close, Put, Take, Watch}
use Rattle.qd_slots.specs.Holds.{is_subscribed}
use Rattle.qd_table.specs.declared.table.SubFault.{SubFault}
use Rattle.qd_table.specs.declared.table.SubFault.TheVariants as faults
use Rattle.qd_table.specs.Tables.{key_at, slot_for, hold_for, order_of, wants_for, fault_of}
use Rattle.qd_hist_rules.specs.declared.item.HistItem.{HistItem}
use Rattle.qd_hist_rules.specs.declared.reply.HistoryReply.{HistoryReply}
use Rattle.qd_hist_rules.specs.declared.reply.HistoryReply.TheVariants.{Done, Items, Wants, TooManyKeys, TooManySubs, HistoryFull, Spent, NoMemory}
use Rattle.qd_hist_rules.specs.Legal.{HistoryOp}
use Rattle.qd_hist_stand.specs.Stripes.{Shown, queue_at, due_at}
use Rattle.qd_hist_stand.specs.Steps.{IsPut, IsSubscribing, IsDropped, IsGiven, IsTurned, IsTelling, IsRoomier}
use Rattle.qd_history.specs.Rooms.{wanted_count}

-- an agent was subscribed to these in order
unfoldable pub SubscribesAll : Shown → ℕ → List Sub → Shown → Type 0
SubscribesAll s a [] t = s ≡ t
SubscribesAll s a (x ∷ xs) t = (slot : ℕ) × (mid : Shown) × IsSubscribing s a x.key x.limit slot mid × SubscribesAll mid a xs t

-- an Add that was done: room was made before
pub record IsAdded (s : Shown) (a : ℕ) (subs : List Sub) (t : Shown) : Type 0 where
  pub mid : Shown
  pub roomier : IsRoomier s mid
  pub subscribed : SubscribesAll mid a subs t

-- an Add: refused just where too many keys or pairs would be held, else done, or refused for want of memory
abbrev pub AddsBy : Option SubFault → Shown → ℕ → List Sub → HistoryReply → Shown → Type 0
AddsBy (Some faults.TooManyKeys) s a subs reply t = (reply ≡ TooManyKeys) × IsRoomier s t
AddsBy (Some faults.TooManySubs) s a subs reply t = (reply ≡ TooManySubs) × IsRoomier s t
AddsBy (Some faults.NoMemory) s a subs reply t = ⊥
AddsBy None s a subs reply t = ((reply ≡ Done) × IsAdded s a subs t) ⊎ ((reply ≡ NoMemory) × IsRoomier s t)

abbrev pub Adds : Shown → ℕ → List Sub → HistoryReply → Shown → Type 0
Adds s a subs reply t = AddsBy (fault_of s.table a subs) s a subs reply t

-- after a Remove of one key, which has this slot
abbrev pub RemovesAt : Option ℕ → Shown → ℕ → Key → Shown → Type 0
RemovesAt None s a k t = s ≡ t
RemovesAt (Some slot) s a k t = MatchBool (is_subscribed (hold_for s.table a slot)) ((key_at s.table slot ≡ Some k) × IsDropped s a slot t) (s ≡ t)

-- after a Remove of these keys in order
unfoldable pub RemovesAll : Shown → ℕ → List Key → Shown → Type 0
RemovesAll s a [] t = s ≡ t
RemovesAll s a (k ∷ ks) t = (mid : Shown) × RemovesAt (slot_for s.table k) s a k mid × RemovesAll mid a ks t

-- all subscriptions of an agent end, in the order in which they began, in so many steps
unfoldable pub EndsAll : ℕ → Shown → ℕ → Shown → Type 0
EndsAll zero s a t = (first_in (order_of s.table a) ≡ None) × (s ≡ t)
EndsAll (suc n) s a t = (slot : ℕ) × (mid : Shown) × (first_in (order_of s.table a) ≡ Some slot) × IsDropped s a slot mid × EndsAll n mid a t

-- these events were put in order
unfoldable pub PutsAll : Shown → List Event → Shown → Type 0
PutsAll s [] t = s ≡ t
PutsAll s (e ∷ es) t = (mid : Shown) × IsPut s e mid × PutsAll mid es t

-- a Put that was done: room was made before
pub record IsPutAll (s : Shown) (es : List Event) (t : Shown) : Type 0 where
  pub mid : Shown
  pub roomier : IsRoomier s mid
  pub put : PutsAll mid es t

-- a Put: refused just where too much would be kept and held back or too many commits might be made, else done, or refused for want of memory
abbrev pub PutsBy : Bool → Bool → Shown → List Event → HistoryReply → Shown → Type 0
PutsBy true spent s es reply t = (reply ≡ HistoryFull) × (s ≡ t)
PutsBy false true s es reply t = (reply ≡ Spent) × (s ≡ t)
PutsBy false false s es reply t = ((reply ≡ Done) × IsPutAll s es t) ⊎ ((reply ≡ NoMemory) × IsRoomier s t)

abbrev pub is_full : Shown → List Event → Bool
is_full s es = nat_lt 262144 (s.stock + wanted_count s.table es)

abbrev pub is_spent : Shown → List Event → Bool
is_spent s es = nat_lt (2 ^ 63) (s.count + length es)

abbrev pub Puts : Shown → List Event → HistoryReply → Shown → Type 0
Puts s es reply t = PutsBy (is_full s es) (is_spent s es) s es reply t

-- an item that was given, and the slot of its key
pub record Gift : Type 0 where
  pub slot : ℕ
  pub item : HistItem

-- these were given one after another
unfoldable pub GivesEach : Shown → ℕ → List Gift → Shown → Type 0
GivesEach s a [] t = s ≡ t
GivesEach s a (g ∷ gs) t = (mid : Shown) × IsGiven s a g.slot g.item mid × GivesEach mid a gs t

-- the slot of the last of them
abbrev pub last_slot : List Gift → Option ℕ
last_slot [] = None
last_slot (g ∷ []) = Some g.slot
last_slot (g ∷ h ∷ gs) = last_slot (h ∷ gs)

-- nothing is to be given of the slot that is due first
abbrev pub IsIdleAt : Option ℕ → Shown → ℕ → Type 0
IsIdleAt None s a = Unit {0}
IsIdleAt (Some slot) s a = (key_at s.table slot ≡ None) ⊎ (due_at s a slot ≡ false)

abbrev pub IsIdle : Shown → ℕ → Type 0
IsIdle s a = IsIdleAt (first_in (queue_at s a)) s a

-- what a Take leaves after these gifts: with as many as were asked for the last one's slot has had its turn, with fewer nothing is due
pub record Ends (s : Shown) (a most : ℕ) (gs : List Gift) (t : Shown) : Type 0 where
  pub within : length gs ≤ most
  pub idle : length gs < most → IsIdle s a × (s ≡ t)
  pub turned : length gs ≡ most → (slot : ℕ) × (last_slot gs ≡ Some slot) × IsTurned s a slot t

pub record Takes (s : Shown) (a most : ℕ) (gs : List Gift) (t : Shown) : Type 0 where
  pub mid : Shown
  pub given : GivesEach s a gs mid
  pub ends : Ends mid a most gs t

abbrev pub items_of : List Gift → List HistItem
items_of gs = map (λ g. g.item) gs

-- a step: what it replies and what it leaves
unfoldable pub StepsTo : Shown → HistoryOp → HistoryReply → Shown → Type 0
StepsTo s (Add agent subs) reply t = Adds s agent subs.items reply t
StepsTo s (Remove agent keys) reply t = (reply ≡ Done) × RemovesAll s agent keys.items t
StepsTo s (Close agent) reply t = (reply ≡ Done) × (n : ℕ) × EndsAll n s agent t
StepsTo s (Put items) reply t = Puts s items.items reply t
StepsTo s (Take agent most out) reply t = (gs : List Gift) × (reply ≡ Items (with_items out (items_of gs))) × Takes s agent most gs t
StepsTo s (Watch watcher most out) reply t = (reply ≡ Wants (with_items out (wants_for s.table watcher most))) × IsTelling s watcher most t
