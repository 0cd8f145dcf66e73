-- What happens in a stripe, act by act.
use Rattle.std.specs.Prelude.{ℕ, Bool, false, ◌&&◌, nat_eq, Option, Some, None, List, [], ◌∷◌}
use Rattle.qd_scheme.specs.declared.key.Key.{Key}
use Rattle.qd_scheme.specs.Keys.{key_eq}

-- one act: P is what is put, T what is given; Full stands behind a Take that gave as many items as it was asked for, the last of them of this key
pub data Act (P T : Type 0) : Type 0 where
  Subscribed : (agent : ℕ) (key : Key) (limit : ℕ) → Act P T
  Unsubscribed : (agent : ℕ) (key : Key) → Act P T
  Closed : (agent : ℕ) → Act P T
  Came : (key : Key) (item : P) → Act P T
  Gave : (agent : ℕ) (key : Key) (item : T) → Act P T
  Told : (watcher : ℕ) (key : Key) (total : Option ℕ) → Act P T
  Full : (agent : ℕ) (key : Key) → Act P T

-- a moment is the list of the acts so far, the newest first
abbrev pub Moment : Type 0 → Type 0 → Type 0
Moment P T = List (Act P T)

-- an agent (or a watcher) and a key are these two
abbrev pub is_pair : ℕ → Key → ℕ → Key → Bool
is_pair a k b j = nat_eq a b && key_eq k j

-- the act puts an item of k
abbrev pub is_put : {P T : Type 0} → Key → Act P T → Bool
is_put k (Came j item) = key_eq k j
is_put k (Subscribed b j limit) = false
is_put k (Unsubscribed b j) = false
is_put k (Closed b) = false
is_put k (Gave b j item) = false
is_put k (Told w j total) = false
is_put k (Full b j) = false

-- the act gives a an item of k
abbrev pub is_gift : {P T : Type 0} → ℕ → Key → Act P T → Bool
is_gift a k (Gave b j item) = is_pair a k b j
is_gift a k (Subscribed b j limit) = false
is_gift a k (Unsubscribed b j) = false
is_gift a k (Closed b) = false
is_gift a k (Came j item) = false
is_gift a k (Told w j total) = false
is_gift a k (Full b j) = false

-- the act tells w a total of k
abbrev pub is_told : {P T : Type 0} → ℕ → Key → Act P T → Bool
is_told w k (Told v j total) = is_pair w k v j
is_told w k (Subscribed b j limit) = false
is_told w k (Unsubscribed b j) = false
is_told w k (Closed b) = false
is_told w k (Came j item) = false
is_told w k (Gave b j item) = false
is_told w k (Full b j) = false

-- the key that the newest act is about
abbrev pub newest_key : {P T : Type 0} → Moment P T → Option Key
newest_key [] = None
newest_key (Subscribed b j limit ∷ past) = Some j
newest_key (Unsubscribed b j ∷ past) = Some j
newest_key (Closed b ∷ past) = None
newest_key (Came j item ∷ past) = Some j
newest_key (Gave b j item ∷ past) = Some j
newest_key (Told w j total ∷ past) = Some j
newest_key (Full b j ∷ past) = Some j
