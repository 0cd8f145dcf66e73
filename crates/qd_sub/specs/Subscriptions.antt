-- Who is subscribed to what, and what is kept.
use Rattle.std.specs.Prelude.{ℕ, Bool, if◌then◌else◌, Option, Some, None, is_some, List, [], ◌∷◌, ◌++◌, min}
use Rattle.std.specs.List.{list_any, filter_map}
use Rattle.qd_scheme.specs.declared.key.Key.{Key}
use Rattle.qd_scheme.specs.Keys.{key_eq}
use Rattle.qd_sub.specs.Acts.{Act, Subscribed, Unsubscribed, Closed, Came, Gave, Told, Full, Moment, is_pair, newest_key}
use Rattle.qd_sub.specs.Since.{since, unbroken, by_since}

-- the limit of the last subscription of a to k, unless it ended
unfoldable pub limit_of : {P T : Type 0} → ℕ → Key → Moment P T → Option ℕ
limit_of a k [] = None
limit_of a k (Subscribed b j limit ∷ past) = if is_pair a k b j then Some limit else limit_of a k past
limit_of a k (Unsubscribed b j ∷ past) = if is_pair a k b j then None else limit_of a k past
limit_of a k (Closed b ∷ past) = limit_of a k past
limit_of a k (Came j item ∷ past) = limit_of a k past
limit_of a k (Gave b j item ∷ past) = limit_of a k past
limit_of a k (Told w j total ∷ past) = limit_of a k past
limit_of a k (Full b j ∷ past) = limit_of a k past

-- the last act on the two is a subscription, and not its end
unfoldable pub subscribed : {P T : Type 0} → ℕ → Key → Moment P T → Bool
subscribed a k now = is_some (limit_of a k now)

-- the position at which a's subscription to k began
abbrev pub began : {P T : Type 0} → ℕ → Key → Moment P T → ℕ
began a k now = since (unbroken k) (subscribed a k) now

-- the keys that a is subscribed to, in the order in which its subscriptions began
abbrev pub keys_of : {P T : Type 0} → ℕ → Moment P T → List Key
keys_of a now = by_since newest_key unbroken (subscribed a) now

-- every agent that ever subscribed
unfoldable pub agents : {P T : Type 0} → Moment P T → List ℕ
agents [] = []
agents (Subscribed b j limit ∷ past) = b ∷ agents past
agents (Unsubscribed b j ∷ past) = agents past
agents (Closed b ∷ past) = agents past
agents (Came j item ∷ past) = agents past
agents (Gave b j item ∷ past) = agents past
agents (Told w j total ∷ past) = agents past
agents (Full b j ∷ past) = agents past

-- some agent is subscribed to k
unfoldable pub wanted : {P T : Type 0} → Key → Moment P T → Bool
wanted k now = list_any (λ a. subscribed a k now) (agents now)

-- the least of some numbers
unfoldable pub least : List ℕ → Option ℕ
least [] = None
least (n ∷ ns) = Some (elim (least ns) [ None ↦ n | Some m ↦ min n m ])

-- the least limit of the agents of k; an unwanted key has none
unfoldable pub total : {P T : Type 0} → Key → Moment P T → Option ℕ
total k now = least (filter_map (λ a. limit_of a k now) (agents now))

-- these items, and the act's, if it puts one of k
abbrev pub and_put : {P T : Type 0} → Key → Act P T → List P → List P
and_put k (Came j item) items = if key_eq k j then items ++ item ∷ [] else items
and_put k (Subscribed b j limit) items = items
and_put k (Unsubscribed b j) items = items
and_put k (Closed b) items = items
and_put k (Gave b j item) items = items
and_put k (Told w j total) items = items
and_put k (Full b j) items = items

-- the items put for k since it was last unwanted, in order; none while it is unwanted
unfoldable pub kept : {P T : Type 0} → Key → Moment P T → List P
kept k [] = []
kept k (act ∷ past) = if wanted k (act ∷ past) then and_put k act (kept k past) else []
