-- The moments of a history, and what an agent was given.
use Rattle.std.specs.Prelude.{ℕ, Bool, false, ◌&&◌, if◌then◌else◌, List, [], ◌∷◌, map}
use Rattle.qd_scheme.specs.declared.key.Key.{Key}
use Rattle.qd_scheme.specs.declared.key.Event.{Event}
use Rattle.qd_flags.specs.Bits.{is_begin}
use Rattle.qd_sub.specs.Acts.{Act, Subscribed, Unsubscribed, Closed, Came, Gave, Told, Full, Moment, is_pair}
use Rattle.qd_hist_rules.specs.declared.item.HistItem.{HistItem}

abbrev pub HistAct : Type 0
HistAct = Act Event HistItem

-- events are put, and items are given; the newest act stands first
abbrev pub HistMoment : Type 0
HistMoment = Moment Event HistItem

abbrev pub event_key : Event → Key
event_key e = e.key

abbrev pub item_key : HistItem → Key
item_key i = i.event.key

abbrev pub events : List HistItem → List Event
events items = map (λ i. i.event) items

-- all items of k that a was ever given, the newest first
abbrev pub given : ℕ → Key → HistMoment → List HistItem
given a k [] = []
given a k (Gave b j i ∷ past) = if is_pair a k b j then i ∷ given a k past else given a k past
given a k (Subscribed b j limit ∷ past) = given a k past
given a k (Unsubscribed b j ∷ past) = given a k past
given a k (Closed b ∷ past) = given a k past
given a k (Came j e ∷ past) = given a k past
given a k (Told w j total ∷ past) = given a k past
given a k (Full b j ∷ past) = given a k past

-- the act gives a an item of k
abbrev pub gives : ℕ → Key → HistAct → Bool
gives a k (Gave b j i) = is_pair a k b j
gives a k (Subscribed b j limit) = false
gives a k (Unsubscribed b j) = false
gives a k (Closed b) = false
gives a k (Came j e) = false
gives a k (Told w j total) = false
gives a k (Full b j) = false

-- the act gives a an item of k with BEGIN
abbrev pub begins : ℕ → Key → HistAct → Bool
begins a k (Gave b j i) = is_pair a k b j && is_begin i.event
begins a k (Subscribed b j limit) = false
begins a k (Unsubscribed b j) = false
begins a k (Closed b) = false
begins a k (Came j e) = false
begins a k (Told w j total) = false
begins a k (Full b j) = false

-- the act subscribes a to k
abbrev pub subscribes : ℕ → Key → HistAct → Bool
subscribes a k (Subscribed b j limit) = is_pair a k b j
subscribes a k (Gave b j i) = false
subscribes a k (Unsubscribed b j) = false
subscribes a k (Closed b) = false
subscribes a k (Came j e) = false
subscribes a k (Told w j total) = false
subscribes a k (Full b j) = false

-- the act marks a Take of a that gave as many items as it was asked for, the last of them of k
abbrev pub fills : ℕ → Key → HistAct → Bool
fills a k (Full b j) = is_pair a k b j
fills a k (Subscribed b j limit) = false
fills a k (Gave b j i) = false
fills a k (Unsubscribed b j) = false
fills a k (Closed b) = false
fills a k (Came j e) = false
fills a k (Told w j total) = false
