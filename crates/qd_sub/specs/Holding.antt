-- Which pairs and keys are held, where a pair is held just while it is subscribed (the ticker and the history).
use Rattle.std.specs.Prelude.{ℕ, Bool, ◌||◌, if◌then◌else◌, Option, Some, None, is_some, List, [], ◌∷◌}
use Rattle.std.specs.List.{list_any}
use Rattle.qd_scheme.specs.declared.key.Key.{Key}
use Rattle.qd_scheme.specs.Keys.{key_eq}
use Rattle.qd_sub.specs.Acts.{Subscribed, Unsubscribed, Closed, Came, Gave, Told, Full, Moment, newest_key}
use Rattle.qd_sub.specs.Since.{unbroken, by_since}
use Rattle.qd_sub.specs.Subscriptions.{subscribed, wanted}
use Rattle.qd_sub.specs.Watching.{known}

-- every watcher that was ever told a total
unfoldable pub watchers : {P T : Type 0} → Moment P T → List ℕ
watchers [] = []
watchers (Told w j total ∷ past) = w ∷ watchers past
watchers (Subscribed b j limit ∷ past) = watchers past
watchers (Unsubscribed b j ∷ past) = watchers past
watchers (Closed b ∷ past) = watchers past
watchers (Came j item ∷ past) = watchers past
watchers (Gave b j item ∷ past) = watchers past
watchers (Full b j ∷ past) = watchers past

-- an agent is subscribed to k, or a watcher knows a total of it
unfoldable pub held : {P T : Type 0} → Key → Moment P T → Bool
held k now = wanted k now || list_any (λ w. is_some (known w k now)) (watchers now)

-- the held keys, by the position since which each is held
unfoldable pub held_keys : {P T : Type 0} → Moment P T → List Key
held_keys now = by_since newest_key unbroken held now

-- the agent and the key that the newest act is about
abbrev pub newest_pair : {P T : Type 0} → Moment P T → Option (ℕ × Key)
newest_pair [] = None
newest_pair (Subscribed b j limit ∷ past) = Some (b, j)
newest_pair (Unsubscribed b j ∷ past) = Some (b, j)
newest_pair (Closed b ∷ past) = None
newest_pair (Came j item ∷ past) = None
newest_pair (Gave b j item ∷ past) = Some (b, j)
newest_pair (Told w j total ∷ past) = None
newest_pair (Full b j ∷ past) = Some (b, j)

-- the held pairs, by the position since which each is held
unfoldable pub held_pairs : {P T : Type 0} → Moment P T → List (ℕ × Key)
held_pairs now = by_since newest_pair unbroken (λ p now. subscribed p.0 p.1 now) now

-- k is in the list
abbrev pub has_key : List Key → Key → Bool
has_key ks k = list_any (λ j. key_eq k j) ks

-- the distinct keys of a list that are not held
unfoldable pub fresh : List Key → List Key → List Key
fresh held [] = []
fresh held (k ∷ ks) = if has_key held k then fresh held ks else k ∷ fresh (k ∷ held) ks
