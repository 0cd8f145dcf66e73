-- What a watcher knows, and which keys differ for it.
use Rattle.std.specs.Prelude.{ℕ, Bool, true, false, ◌&&◌, ◌||◌, not, nat_eq, if◌then◌else◌, Option, Some, None, is_some, List, [], ◌∷◌, map, take}
use Rattle.qd_scheme.specs.declared.key.Key.{Key}
use Rattle.qd_sub.specs.declared.sub.Want.{Want}
use Rattle.qd_sub.specs.Acts.{Subscribed, Unsubscribed, Closed, Came, Gave, Told, Full, Moment, is_pair, is_told, newest_key}
use Rattle.qd_sub.specs.Since.{by_since}
use Rattle.qd_sub.specs.Subscriptions.{wanted, total}

-- the total of the last telling of k to w; none at first
unfoldable pub known : {P T : Type 0} → ℕ → Key → Moment P T → Option ℕ
known w k [] = None
known w k (Told v j total ∷ past) = if is_pair w k v j then total else known w k past
known w k (Subscribed b j limit ∷ past) = known w k past
known w k (Unsubscribed b j ∷ past) = known w k past
known w k (Closed b ∷ past) = known w k past
known w k (Came j item ∷ past) = known w k past
known w k (Gave b j item ∷ past) = known w k past
known w k (Full b j ∷ past) = known w k past

-- k was unwanted at some moment from the last telling of it to w on
unfoldable pub lapsed : {P T : Type 0} → ℕ → Key → Moment P T → Bool
lapsed w k [] = false
lapsed w k (act ∷ past) = not (wanted k (act ∷ past)) || (not (is_told w k act) && lapsed w k past)

-- w knows a total, and k was unwanted after that
abbrev pub is_outdated : {P T : Type 0} → ℕ → Key → Moment P T → Bool
is_outdated w k now = is_some (known w k now) && lapsed w k now

-- two totals are one
abbrev pub same_total : Option ℕ → Option ℕ → Bool
same_total None None = true
same_total None (Some n) = false
same_total (Some m) None = false
same_total (Some m) (Some n) = nat_eq m n

-- what w knows of k is not its total, or is outdated
unfoldable pub differs : {P T : Type 0} → ℕ → Key → Moment P T → Bool
differs w k now = not (same_total (known w k now) (total k now)) || is_outdated w k now

-- what w is to be told of k
abbrev pub want_of : {P T : Type 0} → ℕ → Moment P T → Key → Want
want_of w now k = record { key = k; total = if is_outdated w k now then None else total k now }

-- the answer to a Watch: the first keys that differ, by the position since which each does; a telling always breaks that
unfoldable pub watched : {P T : Type 0} → ℕ → ℕ → Moment P T → List Want
watched w max now = map (want_of w now) (take max (by_since newest_key (λ k. is_told w k) (differs w) now))
