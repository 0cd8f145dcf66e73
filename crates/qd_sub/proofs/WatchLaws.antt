-- What a telling does to the keys that differ for a watcher.
use Rattle.std.proofs.Common.{◌≡◌, ℕ, Bool, true, false, ◌||◌, not, if◌then◌else◌, nat_eq, Option, None, List, [], ◌∷◌, ◌++◌, refl, sym, ◌∙◌}
use Rattle.std.specs.List.{filter}
use Rattle.qd_scheme.specs.declared.key.Key.{Key}
use Rattle.qd_scheme.specs.Keys.{key_eq}
use Rattle.qd_scheme.proofs.KeyLaws.{key_eq-same, key_eq-comm}
use Rattle.qd_sub.specs.Acts.{Act, Told, Moment, is_pair, is_told, newest_key}
use Rattle.qd_sub.specs.Since.{by_since}
use Rattle.qd_sub.specs.Subscriptions.{limit_of, subscribed, agents, wanted, total}
use Rattle.qd_sub.specs.Watching.{known, lapsed, differs}
use Rattle.qd_sub.proofs.SinceLaws.{same_number}
use Rattle.qd_sub.proofs.OrderLaws.{by_since-breaks}

-- the keys that differ for w, by the positions since which each does
abbrev pub differing : {P T : Type 0} → ℕ → Moment P T → List Key
differing w now = by_since newest_key (λ k. is_told w k) (differs w) now

pub wanted-told : {P T : Type 0} (k : Key) (w : ℕ) (j : Key) (t : Option ℕ) (now : Moment P T) → wanted k (Told w j t ∷ now) ≡ wanted k now
unfolding wanted agents subscribed limit_of
wanted-told k w j t now = refl

pub total-told : {P T : Type 0} (k : Key) (w : ℕ) (j : Key) (t : Option ℕ) (now : Moment P T) → total k (Told w j t ∷ now) ≡ total k now
unfolding total agents limit_of
total-told k w j t now = refl

pub known-told_other : {P T : Type 0} (w : ℕ) (k : Key) (v : ℕ) (j : Key) (t : Option ℕ) (now : Moment P T) → is_pair w k v j ≡ false → known w k (Told v j t ∷ now) ≡ known w k now
unfolding known
known-told_other w k v j t now h = rw h refl

-- an untold key that was wanted, or had lapsed already, is as it was
lapsed-told_other : {P T : Type 0} (w : ℕ) (k : Key) (v : ℕ) (j : Key) (t : Option ℕ) (now : Moment P T) → is_pair w k v j ≡ false → (wanted k now ≡ false → lapsed w k now ≡ true) → lapsed w k (Told v j t ∷ now) ≡ lapsed w k now
unfolding lapsed
lapsed-told_other w k v j t now h from = rw (h, wanted-told k v j t now) (settled (wanted k now) (lapsed w k now) from)
  where
    settled : (a b : Bool) → (a ≡ false → b ≡ true) → (not a || b) ≡ b
    settled true b f = refl
    settled false b f = sym (f refl)

-- an unwanted key has lapsed, unless nothing has happened
lapsed-unwanted : {P T : Type 0} (w : ℕ) (k : Key) (act : Act P T) (past : Moment P T) → wanted k (act ∷ past) ≡ false → lapsed w k (act ∷ past) ≡ true
unfolding lapsed
lapsed-unwanted w k act past h = rw h refl

known-empty : (P T : Type 0) (w : ℕ) (k : Key) → known {P = P} {T = T} w k [] ≡ None
unfolding known
known-empty P T w k = refl

pub differs-told_other : {P T : Type 0} (w : ℕ) (k : Key) (v : ℕ) (j : Key) (t : Option ℕ) (now : Moment P T) → is_pair w k v j ≡ false → differs w k (Told v j t ∷ now) ≡ differs w k now
unfolding differs
differs-told_other w k v j t [] h = rw (known-told_other w k v j t [] h, total-told k v j t [], known-empty _ _ w k) refl
differs-told_other w k v j t (act ∷ now) h =
    rw (known-told_other w k v j t (act ∷ now) h, total-told k v j t (act ∷ now), lapsed-told_other w k v j t (act ∷ now) h (lapsed-unwanted w k act now)) refl

-- a telling of k to w: k leaves its place, and comes last if it still differs
pub differing-told : {P T : Type 0} (w : ℕ) (k : Key) (t : Option ℕ) (now : Moment P T) → differing w (Told w k t ∷ now) ≡ filter (λ j. not (key_eq k j)) (differing w now) ++ (if differs w k (Told w k t ∷ now) then k ∷ [] else [])
differing-told w k t now =
    by_since-breaks newest_key (λ j. is_told w j) (differs w) (Told w k t) now k (key_eq k) refl (told k (key_eq-same k)) (λ j. broken j) (λ j e d. differs-told_other w j w k t now (apart j e) ∙ d)
  where
    itself : nat_eq w w ≡ true
    itself = same_number w

    told : (j : Key) → key_eq j k ≡ true → is_pair w j w k ≡ true
    told j e = rw (itself, e) refl

    broken : (j : Key) → is_pair w j w k ≡ key_eq k j
    broken j = rw itself (key_eq-comm j k)

    apart : (j : Key) → key_eq k j ≡ false → is_pair w j w k ≡ false
    apart j e = broken j ∙ e
