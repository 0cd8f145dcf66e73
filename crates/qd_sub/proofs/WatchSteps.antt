-- What each act leaves of what a watcher is to be told.
use Rattle.std.proofs.Common.{◌≡◌, ℕ, suc, Bool, true, false, ◌&&◌, ◌||◌, not, if◌then◌else◌, nat_eq, Option, Some, None, is_some, List, [], ◌∷◌, ◌++◌, length, refl, ap, sym, ◌∙◌}
use Rattle.std.proofs.lemmas.List.{append-nil}
use Rattle.std.specs.List.{filter}
use Rattle.std.proofs.Math.Bool.{and-false}
use Rattle.qd_scheme.specs.declared.key.Key.{Key}
use Rattle.qd_scheme.specs.Keys.{key_eq}
use Rattle.qd_scheme.proofs.KeyLaws.{key_eq-true, key_eq-comm}
use Rattle.qd_sub.specs.Acts.{Act, Subscribed, Unsubscribed, Closed, Came, Gave, Told, Full, Moment, is_pair, is_told, newest_key}
use Rattle.qd_sub.specs.Since.{begun_at, by_since}
use Rattle.qd_sub.specs.Subscriptions.{agents, wanted, least, total}
use Rattle.qd_sub.specs.Watching.{known, lapsed, is_outdated, same_total, differs}
use Rattle.qd_sub.specs.Holding.{has_key}
use Rattle.qd_sub.proofs.SinceLaws.{grown, by_since-step, by_since-holds, filter-agree_within, filter-all}
use Rattle.qd_sub.proofs.OrderLaws.{is_about, once}
use Rattle.qd_sub.proofs.OrderSteps.{begins-at, by_since-about, by_since-has_broken, by_since-once_broken}
use Rattle.qd_sub.proofs.WatchLaws.{differing, wanted-told, total-told, known-told_other}
use Rattle.qd_sub.proofs.HeldLaws.{wanted-about, known-about, total-about}

-- a key that is unwanted has lapsed, once anything happened
lapsed-unwanted : {P T : Type 0} (w : ℕ) (k : Key) (act : Act P T) (past : Moment P T) → wanted k (act ∷ past) ≡ false → lapsed w k (act ∷ past) ≡ true
unfolding lapsed
lapsed-unwanted w k act past h = rw h refl

known-empty : (P T : Type 0) (w : ℕ) (k : Key) → known {P = P} {T = T} w k [] ≡ None
unfolding known
known-empty P T w k = refl

-- what is outdated after an act that tells w nothing of k
pub outdated-next : {P T : Type 0} (w : ℕ) (k : Key) (act : Act P T) (now : Moment P T) → is_told w k act ≡ false → known w k (act ∷ now) ≡ known w k now →
    is_outdated w k (act ∷ now) ≡ (is_some (known w k now) && (not (wanted k (act ∷ now)) || lapsed w k now))
unfolding lapsed
outdated-next w k act now t e = rw (e, t) refl

settled : (a b : Bool) → (a ≡ false → b ≡ true) → (not a || b) ≡ b
settled true b f = refl
settled false b f = sym (f refl)

-- where the key is wanted as before, nothing changes
pub outdated-same : {P T : Type 0} (w : ℕ) (k : Key) (act : Act P T) (now : Moment P T) → is_told w k act ≡ false → known w k (act ∷ now) ≡ known w k now → wanted k (act ∷ now) ≡ wanted k now →
    is_outdated w k (act ∷ now) ≡ is_outdated w k now
outdated-same w k act [] t e same = outdated-next w k act [] t e ∙ rw (known-empty _ _ w k) refl
outdated-same w k act (one ∷ now) t e same = outdated-next w k act (one ∷ now) t e ∙ rw same (ap (λ b. is_some (known w k (one ∷ now)) && b) (settled (wanted k (one ∷ now)) (lapsed w k (one ∷ now)) (lapsed-unwanted w k one now)))

-- where it is wanted then, what was outdated stays so
pub outdated-wanted : {P T : Type 0} (w : ℕ) (k : Key) (act : Act P T) (now : Moment P T) → is_told w k act ≡ false → known w k (act ∷ now) ≡ known w k now → wanted k (act ∷ now) ≡ true → is_outdated w k (act ∷ now) ≡ is_outdated w k now
outdated-wanted w k act now t e h = outdated-next w k act now t e ∙ rw h refl

-- where it is unwanted then, what w knows of it is outdated
pub outdated-unwanted : {P T : Type 0} (w : ℕ) (k : Key) (act : Act P T) (now : Moment P T) → is_told w k act ≡ false → known w k (act ∷ now) ≡ known w k now → wanted k (act ∷ now) ≡ false → is_outdated w k (act ∷ now) ≡ is_some (known w k now)
outdated-unwanted w k act now t e h = outdated-next w k act now t e ∙ rw h (and-true (is_some (known w k now)))
  where
    and-true : (b : Bool) → (b && true) ≡ b
    and-true true = refl
    and-true false = refl

-- a telling of k to w: what it then knows is outdated where k is unwanted
pub outdated-told : {P T : Type 0} (w : ℕ) (k : Key) (t : Option ℕ) (now : Moment P T) → is_pair w k w k ≡ true → is_outdated w k (Told w k t ∷ now) ≡ (is_some t && not (wanted k now))
unfolding known lapsed
outdated-told w k t now itself = rw (itself, wanted-told k w k t now) (ap (λ b. is_some t && b) (or-false (not (wanted k now))))
  where
    or-false : (b : Bool) → (b || false) ≡ b
    or-false true = refl
    or-false false = refl

pub differs-same : {P T : Type 0} (w : ℕ) (k : Key) (act : Act P T) (now : Moment P T) → known w k (act ∷ now) ≡ known w k now → total k (act ∷ now) ≡ total k now → is_outdated w k (act ∷ now) ≡ is_outdated w k now → differs w k (act ∷ now) ≡ differs w k now
unfolding differs
differs-same w k act now e f g = rw (e, f) (ap (λ b. not (same_total (known w k now) (total k now)) || b) (rw e at g))

-- an act about another key tells nothing of this one
told-about : {P T : Type 0} (w : ℕ) (act : Act P T) (now : Moment P T) (k : Key) → is_about key_eq k (newest_key (act ∷ now)) ≡ false → is_told w k act ≡ false
told-about w (Subscribed b j limit) now k h = refl
told-about w (Unsubscribed b j) now k h = refl
told-about w (Closed b) now k h = refl
told-about w (Came j item) now k h = refl
told-about w (Gave b j item) now k h = refl
told-about w (Told v j t) now k h = rw h (and-false (nat_eq w v))
told-about w (Full b j) now k h = refl

pub differs-about : {P T : Type 0} (w : ℕ) (act : Act P T) (now : Moment P T) (k : Key) → is_about key_eq k (newest_key (act ∷ now)) ≡ false → differs w k (act ∷ now) ≡ differs w k now
differs-about w act now k h =
    differs-same w k act now (known-about w act now k h) (total-about act now k h) (outdated-same w k act now (told-about w act now k h) (known-about w act now k h) (wanted-about act now k h))

pub differs-empty : (P T : Type 0) (w : ℕ) (k : Key) → differs {P = P} {T = T} w k [] ≡ false
unfolding differs known total agents least
differs-empty P T w k = refl

-- the keys that differ for a watcher
pub differing-has : {P T : Type 0} (w : ℕ) (now : Moment P T) (k : Key) → has_key (differing w now) k ≡ differs w k now
differing-has w now k = by_since-has_broken newest_key (λ j. is_told w j) (differs w) key_eq key_eq-true (differs-empty _ _ w) (differs-about w) (told-about w) now k

pub differing-once : {P T : Type 0} (w : ℕ) (now : Moment P T) → once key_eq (differing w now) ≡ true
differing-once w now = by_since-once_broken newest_key (λ j. is_told w j) (differs w) key_eq key_eq-true key_eq-comm (differs-empty _ _ w) (differs-about w) (told-about w) now

-- an act about k that tells w nothing leaves the keys that differ, with k last where it begins to, and without it where it does not
pub differing-about : {P T : Type 0} (w : ℕ) (act : Act P T) (now : Moment P T) (k : Key) → newest_key (act ∷ now) ≡ Some k → ((j : Key) → is_told w j act ≡ false) → differing w (act ∷ now) ≡ (if differs w k (act ∷ now) then grown key_eq (differing w now) k else filter (λ j. not (key_eq k j)) (differing w now))
differing-about w act now k about quiet =
    by_since-about newest_key (λ j. is_told w j) (differs w) key_eq key_eq-true act now k about quiet (λ j e. differs-about w act now j (ap (is_about key_eq j) about ∙ key_eq-comm j k ∙ e)) (differing-has w now k)

idle-one : {A X : Type 0} (breaks : X → A → Bool) (holds : X → List A → Bool) (act : A) (now : List A) (o : Option X) → ((x : X) → holds x (act ∷ now) ≡ holds x now) → ((x : X) → breaks x act ≡ false) → begun_at breaks holds (act ∷ now) (suc (length now)) o ≡ []
idle-one breaks holds act now None same quiet = refl
idle-one breaks holds act now (Some x) same quiet = ap (λ b. if b then x ∷ [] else []) (begins-at breaks holds act now x ∙ never (holds x (act ∷ now)) (holds x now) (breaks x act) (same x) (quiet x))
  where
    never : (h w b : Bool) → h ≡ w → b ≡ false → (h && (not w || b)) ≡ false
    never true true true p q = q
    never true true false p q = refl
    never true false b p q = let z : true ≡ false = p in cc
    never false w b p q = refl

-- an act that changes and breaks nothing
by_since-idle : {A X : Type 0} (about : List A → Option X) (breaks : X → A → Bool) (holds : X → List A → Bool) (act : A) (now : List A) → ((x : X) → holds x (act ∷ now) ≡ holds x now) → ((x : X) → breaks x act ≡ false) → by_since about breaks holds (act ∷ now) ≡ by_since about breaks holds now
by_since-idle about breaks holds act now same quiet =
    by_since-step about breaks holds act now
    ∙ ap (λ ys. filter (λ x. holds x (act ∷ now) && not (breaks x act)) (by_since about breaks holds now) ++ ys) (idle-one breaks holds act now (about (act ∷ now)) same quiet)
    ∙ append-nil (filter (λ x. holds x (act ∷ now) && not (breaks x act)) (by_since about breaks holds now))
    ∙ filter-agree_within (λ x. holds x now) (λ x. holds x (act ∷ now) && not (breaks x act)) (λ x. true) (by_since about breaks holds now) (by_since-holds about breaks holds now) (λ x t. rw (same x, quiet x, t) refl)
    ∙ filter-all (by_since about breaks holds now)

-- an act for which nothing begins or ceases to differ
pub differing-same : {P T : Type 0} (w : ℕ) (act : Act P T) (now : Moment P T) → ((k : Key) → differs w k (act ∷ now) ≡ differs w k now) → ((k : Key) → is_told w k act ≡ false) → differing w (act ∷ now) ≡ differing w now
differing-same w act now same quiet = by_since-idle newest_key (λ j. is_told w j) (differs w) act now same quiet

-- a telling to another watcher
pub differing-told_other : {P T : Type 0} (w v : ℕ) (k : Key) (t : Option ℕ) (now : Moment P T) → nat_eq w v ≡ false → differing w (Told v k t ∷ now) ≡ differing w now
differing-told_other w v k t now h =
    differing-same w (Told v k t) now
    (λ j. differs-same w j (Told v k t) now (known-told_other w j v k t now (rw h refl)) (total-told j v k t now) (outdated-same w j (Told v k t) now (rw h refl) (known-told_other w j v k t now (rw h refl)) (wanted-told j v k t now)))
    (λ j. rw h refl)
