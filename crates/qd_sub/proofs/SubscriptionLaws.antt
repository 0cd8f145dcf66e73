-- What each act does to subscriptions, to what is kept and to what is held.
use Rattle.std.proofs.Common.{◌≡◌, ℕ, Bool, true, false, ◌&&◌, ◌||◌, not, if◌then◌else◌, nat_eq, Some, None, is_some, List, [], ◌∷◌, ◌++◌, refl, ap, sym, ◌∙◌, arith}
use Rattle.std.proofs.lemmas.Bool.Decides.{nat_tests}
use Rattle.std.specs.List.{list_any}
use Rattle.std.proofs.lemmas.Bool.{or_right}
use Rattle.qd_scheme.specs.declared.key.Key.{Key}
use Rattle.qd_scheme.specs.Keys.{key_eq}
use Rattle.qd_scheme.proofs.KeyLaws.{key_eq-same}
use Rattle.qd_sub.specs.Acts.{Act, Subscribed, Unsubscribed, Closed, Came, Gave, Told, Full, Moment, is_pair}
use Rattle.qd_sub.specs.Subscriptions.{limit_of, subscribed, agents, wanted, and_put, kept}
use Rattle.qd_sub.specs.Watching.{known}
use Rattle.qd_sub.specs.Holding.{watchers, held}

pub subscribed-sub : {P T : Type 0} (a : ℕ) (k : Key) (b : ℕ) (j : Key) (limit : ℕ) (now : Moment P T) → subscribed a k (Subscribed b j limit ∷ now) ≡ (is_pair a k b j || subscribed a k now)
unfolding subscribed limit_of
subscribed-sub a k b j limit now = elim (is_pair a k b j) as (λ c. is_some (if c then Some limit else limit_of a k now) ≡ (c || is_some (limit_of a k now))) [ true ↦ refl | false ↦ refl ]

pub subscribed-unsub : {P T : Type 0} (a : ℕ) (k : Key) (b : ℕ) (j : Key) (now : Moment P T) → subscribed a k (Unsubscribed b j ∷ now) ≡ (not (is_pair a k b j) && subscribed a k now)
unfolding subscribed limit_of
subscribed-unsub a k b j now = elim (is_pair a k b j) as (λ c. is_some (if c then None else limit_of a k now) ≡ (not c && is_some (limit_of a k now))) [ true ↦ refl | false ↦ refl ]

pub subscribed-came : {P T : Type 0} (a : ℕ) (k : Key) (j : Key) (item : P) (now : Moment P T) → subscribed a k (Came j item ∷ now) ≡ subscribed a k now
unfolding subscribed limit_of
subscribed-came a k j item now = refl

pub subscribed-gave : {P T : Type 0} (a : ℕ) (k : Key) (b : ℕ) (j : Key) (item : T) (now : Moment P T) → subscribed a k (Gave b j item ∷ now) ≡ subscribed a k now
unfolding subscribed limit_of
subscribed-gave a k b j item now = refl

-- who is subscribed once subscribed
subscribed-agent : {P T : Type 0} (a : ℕ) (k : Key) (now : Moment P T) → subscribed a k now ≡ true → list_any (λ b. nat_eq a b) (agents now) ≡ true
unfolding subscribed limit_of agents
subscribed-agent a k [] h = cc
subscribed-agent a k (Subscribed b j limit ∷ now) h =
    let go : (c : Bool) → nat_eq a b ≡ c → list_any (λ d. nat_eq a d) (b ∷ agents now) ≡ true =
    elim [
      | true ↦ λ e. rw e refl
      | false ↦ λ e. rw e (subscribed-agent a k now (rw e at h))
    ] in
    go (nat_eq a b) refl
subscribed-agent a k (Unsubscribed b j ∷ now) h =
    let go : (c : Bool) → is_pair a k b j ≡ c → list_any (λ d. nat_eq a d) (agents now) ≡ true =
    elim [
      | true ↦ λ e. let z = rw e at h in cc
      | false ↦ λ e. subscribed-agent a k now (rw e at h)
    ] in
    go (is_pair a k b j) refl
subscribed-agent a k (Closed b ∷ now) h = subscribed-agent a k now h
subscribed-agent a k (Came j item ∷ now) h = subscribed-agent a k now h
subscribed-agent a k (Gave b j item ∷ now) h = subscribed-agent a k now h
subscribed-agent a k (Told w j total ∷ now) h = subscribed-agent a k now h
subscribed-agent a k (Full b j ∷ now) h = subscribed-agent a k now h

same_number : (m n : ℕ) → nat_eq m n ≡ true → m ≡ n
same_number m n h = grind (arith, nat_tests)

any-there : (p : ℕ → Bool) (a : ℕ) (bs : List ℕ) → p a ≡ true → list_any (λ b. nat_eq a b) bs ≡ true → list_any p bs ≡ true
any-there p a [] h k = k
any-there p a (b ∷ bs) h k =
    let go : (c : Bool) → nat_eq a b ≡ c → (p b || list_any p bs) ≡ true =
    elim [
      | true ↦ λ e. let f : p b ≡ true = ap p (sym (same_number a b e)) ∙ h in rw f refl
      | false ↦ λ e. let f : list_any p bs ≡ true = any-there p a bs h (rw e at k) in
          elim (p b) as (λ d. (d || list_any p bs) ≡ true) [ true ↦ refl | false ↦ f ]
    ] in
    go (nat_eq a b) refl

any-none : {X : Type 0} (p : X → Bool) (xs : List X) → ((x : X) → p x ≡ false) → list_any p xs ≡ false
any-none p [] h = refl
any-none p (x ∷ xs) h = rw (h x) (any-none p xs h)

-- an agent that is subscribed makes the key wanted
pub wanted-subscribed : {P T : Type 0} (a : ℕ) (k : Key) (now : Moment P T) → subscribed a k now ≡ true → wanted k now ≡ true
unfolding wanted
wanted-subscribed a k now h = any-there (λ b. subscribed b k now) a (agents now) h (subscribed-agent a k now h)

-- where no agent is subscribed the key is unwanted
pub wanted-none : {P T : Type 0} (k : Key) (now : Moment P T) → ((a : ℕ) → subscribed a k now ≡ false) → wanted k now ≡ false
unfolding wanted
wanted-none k now h = any-none (λ b. subscribed b k now) (agents now) h

pub kept-unwanted : {P T : Type 0} (k : Key) (now : Moment P T) → wanted k now ≡ false → kept k now ≡ []
unfolding kept
kept-unwanted k [] h = refl
kept-unwanted k (act ∷ now) h = rw h refl

pub kept-wanted : {P T : Type 0} (k : Key) (act : Act P T) (now : Moment P T) → wanted k (act ∷ now) ≡ true → kept k (act ∷ now) ≡ and_put k act (kept k now)
unfolding kept
kept-wanted k act now h = rw h refl

-- where no watcher knows a total, a key is held where it is wanted
pub held-untold : {P T : Type 0} (k : Key) (now : Moment P T) → ((w : ℕ) → known w k now ≡ None) → held k now ≡ wanted k now
unfolding held
held-untold k now h =
    let none : list_any (λ w. is_some (known w k now)) (watchers now) ≡ false = any-none (λ w. is_some (known w k now)) (watchers now) (λ w. rw (h w) refl) in
    rw none (elim (wanted k now) as (λ b. (b || false) ≡ b) [ true ↦ refl | false ↦ refl ])

pub known-sub : {P T : Type 0} (w : ℕ) (k : Key) (b : ℕ) (j : Key) (limit : ℕ) (now : Moment P T) → known w k (Subscribed b j limit ∷ now) ≡ known w k now
unfolding known
known-sub w k b j limit now = refl

pub known-came : {P T : Type 0} (w : ℕ) (k j : Key) (item : P) (now : Moment P T) → known w k (Came j item ∷ now) ≡ known w k now
unfolding known
known-came w k j item now = refl

pub known-gave : {P T : Type 0} (w : ℕ) (k : Key) (b : ℕ) (j : Key) (item : T) (now : Moment P T) → known w k (Gave b j item ∷ now) ≡ known w k now
unfolding known
known-gave w k b j item now = refl

pub wanted-came : {P T : Type 0} (k j : Key) (item : P) (now : Moment P T) → wanted k (Came j item ∷ now) ≡ wanted k now
unfolding wanted agents subscribed limit_of
wanted-came k j item now = refl

pub wanted-gave : {P T : Type 0} (k : Key) (b : ℕ) (j : Key) (item : T) (now : Moment P T) → wanted k (Gave b j item ∷ now) ≡ wanted k now
unfolding wanted agents subscribed limit_of
wanted-gave k b j item now = refl

any-more : {X : Type 0} (p q : X → Bool) (xs : List X) → ((x : X) → p x ≡ true → q x ≡ true) → list_any p xs ≡ true → list_any q xs ≡ true
any-more p q [] more h = h
any-more p q (x ∷ xs) more h =
    let go : (c : Bool) → p x ≡ c → (q x || list_any q xs) ≡ true =
    elim [
      | true ↦ λ e. rw (more x e) refl
      | false ↦ λ e. let f : list_any q xs ≡ true = any-more p q xs more (rw e at h) in
          elim (q x) as (λ d. (d || list_any q xs) ≡ true) [ true ↦ refl | false ↦ f ]
    ] in
    go (p x) refl

-- a subscription makes no key unwanted
pub wanted-sub : {P T : Type 0} (k : Key) (b : ℕ) (j : Key) (limit : ℕ) (now : Moment P T) → wanted k now ≡ true → wanted k (Subscribed b j limit ∷ now) ≡ true
unfolding wanted agents
wanted-sub k b j limit now h =
    or_right (subscribed b k (Subscribed b j limit ∷ now)) (list_any (λ a. subscribed a k (Subscribed b j limit ∷ now)) (agents now))
    (any-more (λ a. subscribed a k now) (λ a. subscribed a k (Subscribed b j limit ∷ now)) (agents now)
    (λ a t. subscribed-sub a k b j limit now ∙ or_right (is_pair a k b j) (subscribed a k now) t) h)

pub kept-came_other : {P T : Type 0} (k j : Key) (item : P) (now : Moment P T) → key_eq k j ≡ false → kept k (Came j item ∷ now) ≡ kept k now
kept-came_other k j item now h =
    let go : (c : Bool) → wanted k now ≡ c → kept k (Came j item ∷ now) ≡ kept k now =
    elim [
      | true ↦ λ e. kept-wanted k (Came j item) now (wanted-came k j item now ∙ e) ∙ rw h refl
      | false ↦ λ e. kept-unwanted k (Came j item ∷ now) (wanted-came k j item now ∙ e) ∙ sym (kept-unwanted k now e)
    ] in
    go (wanted k now) refl

pub kept-came_same : {P T : Type 0} (k : Key) (item : P) (now : Moment P T) → wanted k now ≡ true → kept k (Came k item ∷ now) ≡ kept k now ++ item ∷ []
kept-came_same k item now h = kept-wanted k (Came k item) now (wanted-came k k item now ∙ h) ∙ rw (key_eq-same k) refl

pub kept-came_unwanted : {P T : Type 0} (k j : Key) (item : P) (now : Moment P T) → wanted k now ≡ false → kept k (Came j item ∷ now) ≡ kept k now
kept-came_unwanted k j item now e = kept-unwanted k (Came j item ∷ now) (wanted-came k j item now ∙ e) ∙ sym (kept-unwanted k now e)

pub kept-gave : {P T : Type 0} (k : Key) (b : ℕ) (j : Key) (item : T) (now : Moment P T) → kept k (Gave b j item ∷ now) ≡ kept k now
kept-gave k b j item now =
    let go : (c : Bool) → wanted k now ≡ c → kept k (Gave b j item ∷ now) ≡ kept k now =
    elim [
      | true ↦ λ e. kept-wanted k (Gave b j item) now (wanted-gave k b j item now ∙ e)
      | false ↦ λ e. kept-unwanted k (Gave b j item ∷ now) (wanted-gave k b j item now ∙ e) ∙ sym (kept-unwanted k now e)
    ] in
    go (wanted k now) refl

pub kept-sub : {P T : Type 0} (k : Key) (b : ℕ) (j : Key) (limit : ℕ) (now : Moment P T) → kept k (Subscribed b j limit ∷ now) ≡ kept k now
kept-sub k b j limit now =
    let go : (c d : Bool) → wanted k (Subscribed b j limit ∷ now) ≡ c → wanted k now ≡ d → kept k (Subscribed b j limit ∷ now) ≡ kept k now =
    elim [
      | true ↦ λ d e f. kept-wanted k (Subscribed b j limit) now e
      | false ↦ elim [
        | true ↦ λ e f. let t = wanted-sub k b j limit now f in cc
        | false ↦ λ e f. kept-unwanted k (Subscribed b j limit ∷ now) e ∙ sym (kept-unwanted k now f)
      ]
    ] in
    go (wanted k (Subscribed b j limit ∷ now)) (wanted k now) refl refl

pub subscribed-closed : {P T : Type 0} (a : ℕ) (k : Key) (b : ℕ) (now : Moment P T) → subscribed a k (Closed b ∷ now) ≡ subscribed a k now
unfolding subscribed limit_of
subscribed-closed a k b now = refl

pub wanted-closed : {P T : Type 0} (k : Key) (b : ℕ) (now : Moment P T) → wanted k (Closed b ∷ now) ≡ wanted k now
unfolding wanted agents subscribed limit_of
wanted-closed k b now = refl

any-found : {X : Type 0} (p : X → Bool) (xs : List X) → list_any p xs ≡ true → (x : X) × (p x ≡ true)
any-found p [] h = cc
any-found p (x ∷ xs) h =
    let go : (c : Bool) → p x ≡ c → (y : _) × (p y ≡ true) =
    elim [ true ↦ λ e. (x, e) | false ↦ λ e. any-found p xs (rw e at h) ] in
    go (p x) refl

-- some agent is subscribed to a wanted key
pub wanted-agent : {P T : Type 0} (k : Key) (now : Moment P T) → wanted k now ≡ true → (a : ℕ) × (subscribed a k now ≡ true)
unfolding wanted
wanted-agent k now h = any-found (λ a. subscribed a k now) (agents now) h

-- wanted where, and only where, a test says that some agent is subscribed
pub wanted-by : {P T : Type 0} (k : Key) (now : Moment P T) (b : Bool) → ((a : ℕ) → subscribed a k now ≡ true → b ≡ true) → (b ≡ true → (a : ℕ) × (subscribed a k now ≡ true)) → wanted k now ≡ b
wanted-by k now true up down = let found = down refl in wanted-subscribed found.0 k now found.1
wanted-by k now false up down = wanted-none k now (λ a.
    let go : (c : Bool) → subscribed a k now ≡ c → subscribed a k now ≡ false =
    elim [ true ↦ λ e. let z = up a e in cc | false ↦ λ e. e ] in
    go (subscribed a k now) refl)

pub kept-closed : {P T : Type 0} (k : Key) (b : ℕ) (now : Moment P T) → kept k (Closed b ∷ now) ≡ kept k now
kept-closed k b now =
    let go : (c : Bool) → wanted k now ≡ c → kept k (Closed b ∷ now) ≡ kept k now =
    elim [
      | true ↦ λ e. kept-wanted k (Closed b) now (wanted-closed k b now ∙ e)
      | false ↦ λ e. kept-unwanted k (Closed b ∷ now) (wanted-closed k b now ∙ e) ∙ sym (kept-unwanted k now e)
    ] in
    go (wanted k now) refl

pub kept-unsub_wanted : {P T : Type 0} (k : Key) (b : ℕ) (j : Key) (now : Moment P T) → wanted k (Unsubscribed b j ∷ now) ≡ true → kept k (Unsubscribed b j ∷ now) ≡ kept k now
kept-unsub_wanted k b j now h = kept-wanted k (Unsubscribed b j) now h

pub known-unsub : {P T : Type 0} (w : ℕ) (k : Key) (b : ℕ) (j : Key) (now : Moment P T) → known w k (Unsubscribed b j ∷ now) ≡ known w k now
unfolding known
known-unsub w k b j now = refl

pub known-closed : {P T : Type 0} (w : ℕ) (k : Key) (b : ℕ) (now : Moment P T) → known w k (Closed b ∷ now) ≡ known w k now
unfolding known
known-closed w k b now = refl
