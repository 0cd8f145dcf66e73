-- The laws of a stripe: for which moments it stands after each step.
use Rattle.std.specs.Prelude.{ℕ, ◌≡◌, ◌⊎◌, ◌≤◌, ◌+◌, ◌^◌, nat_lt, if◌then◌else◌, Some, None, List, [], ◌∷◌, length, map, replicate, filter}
use Rattle.qd_scheme.specs.declared.key.Key.{Key}
use Rattle.qd_scheme.specs.declared.key.Event.{Event}
use Rattle.qd_sub.specs.declared.sub.Sub.{Sub}
use Rattle.qd_sub.specs.Acts.{Subscribed, Unsubscribed, Closed, Came, Gave, Told, Full}
use Rattle.qd_sub.specs.Logs.{after}
use Rattle.qd_sub.specs.Watching.{watched}
use Rattle.qd_table.specs.declared.table.SubFault.TheVariants.{TooManyKeys, TooManySubs}
use Rattle.qd_table.specs.Tables.{key_at, no_table, wants_for, fault_of, is_wanted_key}
use Rattle.qd_hist_rules.specs.declared.item.HistItem.{HistItem}
use Rattle.qd_hist_rules.specs.Moments.{HistMoment, item_key}
use Rattle.qd_hist_rules.specs.Lawful.{LawfulItem}
use Rattle.qd_hist_rules.specs.Takes.{LawfulTake, after_gifts}
use Rattle.qd_hist_rules.specs.Legal.{too_many_keys, too_many_subs, is_full, is_spent}
use Rattle.qd_hist_stand.specs.Stripes.{Shown, StandsAt, no_side, queue_at, terms_in}
use Rattle.qd_hist_stand.specs.Steps.{IsPut, IsSubscribing, IsDropped, IsGiven, GivesAll, IsTurned, IsTelling, IsRoomier}

-- a stripe with a side for each agent and nothing else stands for no acts
abbrev pub new_stripe : ℕ → ℕ → Shown
new_stripe hcap base = record { table = no_table; tracks = []; sides = replicate 128 no_side; count = base; stock = 0; hcap = hcap; base = base }

abbrev pub NewStands : Type 0
NewStands = (hcap base : ℕ) → StandsAt (new_stripe hcap base) []

abbrev pub RoomierStands : Type 0
RoomierStands = (s t : Shown) (now : HistMoment) → StandsAt s now → IsRoomier s t → StandsAt t now

abbrev pub SubscribingStands : Type 0
SubscribingStands = (s t : Shown) (a : ℕ) (k : Key) (limit slot : ℕ) (now : HistMoment) → StandsAt s now → IsSubscribing s a k limit slot t → StandsAt t (Subscribed a k limit ∷ now)

abbrev pub DroppedStands : Type 0
DroppedStands = (s t : Shown) (a : ℕ) (k : Key) (slot : ℕ) (now : HistMoment) → StandsAt s now → key_at s.table slot ≡ Some k → IsDropped s a slot t → StandsAt t (Unsubscribed a k ∷ now)

abbrev pub ClosedStands : Type 0
ClosedStands = (s : Shown) (a : ℕ) (now : HistMoment) → StandsAt s now → StandsAt s (Closed a ∷ now)

-- what a watcher is told is what it is to be told, and the stripe then stands for it
abbrev pub TellingStands : Type 0
TellingStands = (s t : Shown) (w most : ℕ) (now : HistMoment) → StandsAt s now → IsTelling s w most t
    → (watched w most now ≡ wants_for s.table w most) × StandsAt t (after now (map (λ want. Told w want.key want.total) (watched w most now)))

abbrev pub PutStands : Type 0
PutStands = (s t : Shown) (e : Event) (now : HistMoment) → StandsAt s now → IsPut s e t → StandsAt t (Came e.key e ∷ now)

abbrev pub GivenStands : Type 0
GivenStands = (s t : Shown) (a slot : ℕ) (i : HistItem) (now : HistMoment) → StandsAt s now → IsGiven s a slot i t
    → (key_at s.table slot ≡ Some (item_key i)) × LawfulItem (terms_in s) a (item_key i) i now × StandsAt t (Gave a (item_key i) i ∷ now)

abbrev pub TurnedStands : Type 0
TurnedStands = (s t : Shown) (a : ℕ) (k : Key) (slot : ℕ) (now : HistMoment) → StandsAt s now → key_at s.table slot ≡ Some k → IsTurned s a slot t → StandsAt t (Full a k ∷ now)

-- items given until there are as many as were asked for, or nothing is due, are a lawful answer
abbrev pub TakeIsLawful : Type 0
TakeIsLawful = (s t : Shown) (a most : ℕ) (is : List HistItem) (now : HistMoment) → StandsAt s now → GivesAll s a is t → length is ≤ most → (length is ≡ most) ⊎ (queue_at t a ≡ [])
    → LawfulTake (terms_in s) a most is now × StandsAt t (after_gifts a is now)

-- what is kept tells whether a Put is refused: with its events on wanted keys too many would be kept and held back
abbrev pub FullIsTold : Type 0
FullIsTold = (s : Shown) (items : List Event) (now : HistMoment) → StandsAt s now → is_full s.base now items ≡ nat_lt 262144 (s.stock + length (filter (λ e. is_wanted_key s.table e.key) items))

-- or too many commits might be made
abbrev pub SpentIsTold : Type 0
SpentIsTold = (s : Shown) (items : List Event) (now : HistMoment) → StandsAt s now → is_spent s.base now items ≡ nat_lt (2 ^ 63) (s.count + length items)

-- and whether an Add is refused
abbrev pub FaultIsTold : Type 0
FaultIsTold = (s : Shown) (a : ℕ) (subs : List Sub) (now : HistMoment) → StandsAt s now
    → fault_of s.table a subs ≡ (if too_many_keys now subs then Some TooManyKeys else if too_many_subs now a subs then Some TooManySubs else None)
