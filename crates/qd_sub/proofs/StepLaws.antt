-- What each act leaves of the subscriptions, the held pairs and the held keys, said of the definitions alone.
use Rattle.std.proofs.Common.{◌≡◌, ℕ, Bool, true, false, ◌&&◌, ◌||◌, not, if◌then◌else◌, nat_eq, Option, Some, [], ◌∷◌, refl, ap, ◌∙◌, arith}
use Rattle.std.proofs.lemmas.Bool.Decides.{nat_tests}
use Rattle.std.specs.List.{filter, list_any}
use Rattle.std.proofs.Math.Bool.{and-false}
use Rattle.qd_scheme.specs.declared.key.Key.{Key}
use Rattle.qd_scheme.specs.Keys.{key_eq}
use Rattle.qd_scheme.proofs.KeyLaws.{key_eq-same, key_eq-true, key_eq-comm}
use Rattle.qd_sub.specs.Acts.{Act, Subscribed, Unsubscribed, Closed, Came, Gave, Told, Full, Moment, is_pair, newest_key}
use Rattle.qd_sub.specs.Since.{unbroken}
use Rattle.qd_sub.specs.Subscriptions.{limit_of, subscribed, keys_of}
use Rattle.qd_sub.specs.Holding.{newest_pair, held_pairs, has_key}
use Rattle.qd_sub.proofs.SinceLaws.{grown, by_since-same, same_number, and-left, and-right}
use Rattle.qd_sub.proofs.OrderLaws.{is_about, by_since-has, once, by_since-once}
use Rattle.qd_sub.proofs.OrderSteps.{by_since-about}
use Rattle.qd_sub.proofs.SubscriptionLaws.{subscribed-sub, subscribed-unsub, subscribed-closed, subscribed-came, subscribed-gave}

pub subscribed-told : {P T : Type 0} (a : ℕ) (k : Key) (w : ℕ) (j : Key) (t : Option ℕ) (now : Moment P T) → subscribed a k (Told w j t ∷ now) ≡ subscribed a k now
unfolding subscribed limit_of
subscribed-told a k w j t now = refl

pub subscribed-full : {P T : Type 0} (a : ℕ) (k : Key) (b : ℕ) (j : Key) (now : Moment P T) → subscribed a k (Full b j ∷ now) ≡ subscribed a k now
unfolding subscribed limit_of
subscribed-full a k b j now = refl

pub subscribed-empty : (P T : Type 0) (a : ℕ) (k : Key) → subscribed {P = P} {T = T} a k [] ≡ false
unfolding subscribed limit_of
subscribed-empty P T a k = refl

-- an act about another key leaves who is subscribed to this one
pub subscribed-about : {P T : Type 0} (a : ℕ) (act : Act P T) (now : Moment P T) (k : Key) → is_about key_eq k (newest_key (act ∷ now)) ≡ false → subscribed a k (act ∷ now) ≡ subscribed a k now
subscribed-about a (Subscribed b j limit) now k h = subscribed-sub a k b j limit now ∙ rw (h, and-false (nat_eq a b)) refl
subscribed-about a (Unsubscribed b j) now k h = subscribed-unsub a k b j now ∙ rw (h, and-false (nat_eq a b)) refl
subscribed-about a (Closed b) now k h = subscribed-closed a k b now
subscribed-about a (Came j item) now k h = subscribed-came a k j item now
subscribed-about a (Gave b j item) now k h = subscribed-gave a k b j item now
subscribed-about a (Told w j t) now k h = subscribed-told a k w j t now
subscribed-about a (Full b j) now k h = subscribed-full a k b j now

-- the keys of an agent
pub keys_of-has : {P T : Type 0} (a : ℕ) (now : Moment P T) (k : Key) → has_key (keys_of a now) k ≡ subscribed a k now
keys_of-has a now k = by_since-has newest_key (subscribed a) key_eq key_eq-true (subscribed-empty _ _ a) (subscribed-about a) now k

pub keys_of-once : {P T : Type 0} (a : ℕ) (now : Moment P T) → once key_eq (keys_of a now) ≡ true
keys_of-once a now = by_since-once newest_key (subscribed a) key_eq key_eq-true key_eq-comm (subscribed-empty _ _ a) (subscribed-about a) now

-- an act about k leaves a's keys, with k last where it begins, and without it where it ends
keys_of-about : {P T : Type 0} (a : ℕ) (act : Act P T) (now : Moment P T) (k : Key) → newest_key (act ∷ now) ≡ Some k → keys_of a (act ∷ now) ≡ (if subscribed a k (act ∷ now) then grown key_eq (keys_of a now) k else filter (λ j. not (key_eq k j)) (keys_of a now))
keys_of-about a act now k about =
    by_since-about newest_key unbroken (subscribed a) key_eq key_eq-true act now k about (λ j. refl) (λ j e. subscribed-about a act now j (ap (is_about key_eq j) about ∙ key_eq-comm j k ∙ e)) (keys_of-has a now k)

pub keys_of-sub : {P T : Type 0} (b a : ℕ) (k : Key) (limit : ℕ) (now : Moment P T) → keys_of b (Subscribed a k limit ∷ now) ≡ (if nat_eq b a then grown key_eq (keys_of b now) k else keys_of b now)
keys_of-sub b a k limit now =
    let go : (c : Bool) → nat_eq b a ≡ c → keys_of b (Subscribed a k limit ∷ now) ≡ (if c then grown key_eq (keys_of b now) k else keys_of b now) =
    elim [
      | true ↦ λ e. keys_of-about b (Subscribed a k limit) now k refl ∙ rw (subscribed-sub b k a k limit now, e, key_eq-same k) refl
      | false ↦ λ e. by_since-same newest_key (subscribed b) (Subscribed a k limit) now (λ j. subscribed-sub b j a k limit now ∙ rw e refl)
    ] in
    go (nat_eq b a) refl

pub keys_of-unsub : {P T : Type 0} (b a : ℕ) (k : Key) (now : Moment P T) → keys_of b (Unsubscribed a k ∷ now) ≡ (if nat_eq b a then filter (λ j. not (key_eq k j)) (keys_of b now) else keys_of b now)
keys_of-unsub b a k now =
    let go : (c : Bool) → nat_eq b a ≡ c → keys_of b (Unsubscribed a k ∷ now) ≡ (if c then filter (λ j. not (key_eq k j)) (keys_of b now) else keys_of b now) =
    elim [
      | true ↦ λ e. keys_of-about b (Unsubscribed a k) now k refl ∙ rw (subscribed-unsub b k a k now, e, key_eq-same k) refl
      | false ↦ λ e. by_since-same newest_key (subscribed b) (Unsubscribed a k) now (λ j. subscribed-unsub b j a k now ∙ rw e refl)
    ] in
    go (nat_eq b a) refl

pub keys_of-closed : {P T : Type 0} (b a : ℕ) (now : Moment P T) → keys_of b (Closed a ∷ now) ≡ keys_of b now
keys_of-closed b a now = by_since-same newest_key (subscribed b) (Closed a) now (λ j. subscribed-closed b j a now)

pub keys_of-came : {P T : Type 0} (b : ℕ) (k : Key) (item : P) (now : Moment P T) → keys_of b (Came k item ∷ now) ≡ keys_of b now
keys_of-came b k item now = by_since-same newest_key (subscribed b) (Came k item) now (λ j. subscribed-came b j k item now)

pub keys_of-gave : {P T : Type 0} (b a : ℕ) (k : Key) (item : T) (now : Moment P T) → keys_of b (Gave a k item ∷ now) ≡ keys_of b now
keys_of-gave b a k item now = by_since-same newest_key (subscribed b) (Gave a k item) now (λ j. subscribed-gave b j a k item now)

pub keys_of-told : {P T : Type 0} (b w : ℕ) (k : Key) (t : Option ℕ) (now : Moment P T) → keys_of b (Told w k t ∷ now) ≡ keys_of b now
keys_of-told b w k t now = by_since-same newest_key (subscribed b) (Told w k t) now (λ j. subscribed-told b j w k t now)

pub keys_of-full : {P T : Type 0} (b a : ℕ) (k : Key) (now : Moment P T) → keys_of b (Full a k ∷ now) ≡ keys_of b now
keys_of-full b a k now = by_since-same newest_key (subscribed b) (Full a k) now (λ j. subscribed-full b j a k now)

-- two pairs are one
abbrev pub pair_eq : ℕ × Key → ℕ × Key → Bool
pair_eq p q = is_pair p.0 p.1 q.0 q.1

number-true : (m n : ℕ) → nat_eq m n ≡ true → m ≡ n
number-true m n h = grind (arith, nat_tests)

number-comm : (m n : ℕ) → nat_eq m n ≡ nat_eq n m
number-comm m n = grind (arith, nat_tests)

pub pair_eq-true : (p q : ℕ × Key) → pair_eq p q ≡ true → p ≡ q
pair_eq-true (a, k) (b, j) h =
    let e : a ≡ b = number-true a b (and-left (nat_eq a b) (key_eq k j) h) in
    let f : k ≡ j = key_eq-true k j (and-right (nat_eq a b) (key_eq k j) h) in
    cc

pub pair_eq-comm : (p q : ℕ × Key) → pair_eq p q ≡ pair_eq q p
pair_eq-comm p q = rw (number-comm p.0 q.0, key_eq-comm p.1 q.1) refl

pub pair_eq-same : (p : ℕ × Key) → pair_eq p p ≡ true
pair_eq-same p = rw (same_number p.0) (key_eq-same p.1)

pair-about : {P T : Type 0} (act : Act P T) (now : Moment P T) (p : ℕ × Key) → is_about pair_eq p (newest_pair (act ∷ now)) ≡ false → subscribed p.0 p.1 (act ∷ now) ≡ subscribed p.0 p.1 now
pair-about (Subscribed b j limit) now p h = subscribed-sub p.0 p.1 b j limit now ∙ ap (λ c. c || subscribed p.0 p.1 now) h
pair-about (Unsubscribed b j) now p h = subscribed-unsub p.0 p.1 b j now ∙ ap (λ c. not c && subscribed p.0 p.1 now) h
pair-about (Closed b) now p h = subscribed-closed p.0 p.1 b now
pair-about (Came j item) now p h = subscribed-came p.0 p.1 j item now
pair-about (Gave b j item) now p h = subscribed-gave p.0 p.1 b j item now
pair-about (Told w j t) now p h = subscribed-told p.0 p.1 w j t now
pair-about (Full b j) now p h = subscribed-full p.0 p.1 b j now

-- the held pairs
pub held_pairs-has : {P T : Type 0} (now : Moment P T) (p : ℕ × Key) → list_any (pair_eq p) (held_pairs now) ≡ subscribed p.0 p.1 now
unfolding held_pairs
held_pairs-has now p = by_since-has newest_pair (λ p now. subscribed p.0 p.1 now) pair_eq pair_eq-true (λ q. subscribed-empty _ _ q.0 q.1) pair-about now p

pub held_pairs-once : {P T : Type 0} (now : Moment P T) → once pair_eq (held_pairs now) ≡ true
unfolding held_pairs
held_pairs-once now = by_since-once newest_pair (λ p now. subscribed p.0 p.1 now) pair_eq pair_eq-true pair_eq-comm (λ q. subscribed-empty _ _ q.0 q.1) pair-about now

held_pairs-about : {P T : Type 0} (act : Act P T) (now : Moment P T) (p : ℕ × Key) → newest_pair (act ∷ now) ≡ Some p → held_pairs (act ∷ now) ≡ (if subscribed p.0 p.1 (act ∷ now) then grown pair_eq (held_pairs now) p else filter (λ q. not (pair_eq p q)) (held_pairs now))
unfolding held_pairs
held_pairs-about act now p about =
    by_since-about newest_pair unbroken (λ p now. subscribed p.0 p.1 now) pair_eq pair_eq-true act now p about (λ q. refl) (λ q e. pair-about act now q (ap (is_about pair_eq q) about ∙ pair_eq-comm q p ∙ e)) (held_pairs-has now p)

pub held_pairs-sub : {P T : Type 0} (a : ℕ) (k : Key) (limit : ℕ) (now : Moment P T) → held_pairs (Subscribed a k limit ∷ now) ≡ grown pair_eq (held_pairs now) (a, k)
held_pairs-sub a k limit now = held_pairs-about (Subscribed a k limit) now (a, k) refl ∙ rw (subscribed-sub a k a k limit now, same_number a, key_eq-same k) refl

pub held_pairs-unsub : {P T : Type 0} (a : ℕ) (k : Key) (now : Moment P T) → held_pairs (Unsubscribed a k ∷ now) ≡ filter (λ q. not (pair_eq (a, k) q)) (held_pairs now)
held_pairs-unsub a k now = held_pairs-about (Unsubscribed a k) now (a, k) refl ∙ rw (subscribed-unsub a k a k now, same_number a, key_eq-same k) refl

held_pairs-same : {P T : Type 0} (act : Act P T) (now : Moment P T) → ((p : ℕ × Key) → subscribed p.0 p.1 (act ∷ now) ≡ subscribed p.0 p.1 now) → held_pairs (act ∷ now) ≡ held_pairs now
unfolding held_pairs
held_pairs-same act now same = by_since-same newest_pair (λ p now. subscribed p.0 p.1 now) act now same

pub held_pairs-closed : {P T : Type 0} (a : ℕ) (now : Moment P T) → held_pairs (Closed a ∷ now) ≡ held_pairs now
held_pairs-closed a now = held_pairs-same (Closed a) now (λ p. subscribed-closed p.0 p.1 a now)

pub held_pairs-came : {P T : Type 0} (k : Key) (item : P) (now : Moment P T) → held_pairs (Came k item ∷ now) ≡ held_pairs now
held_pairs-came k item now = held_pairs-same (Came k item) now (λ p. subscribed-came p.0 p.1 k item now)

pub held_pairs-gave : {P T : Type 0} (a : ℕ) (k : Key) (item : T) (now : Moment P T) → held_pairs (Gave a k item ∷ now) ≡ held_pairs now
held_pairs-gave a k item now = held_pairs-same (Gave a k item) now (λ p. subscribed-gave p.0 p.1 a k item now)

pub held_pairs-told : {P T : Type 0} (w : ℕ) (k : Key) (t : Option ℕ) (now : Moment P T) → held_pairs (Told w k t ∷ now) ≡ held_pairs now
held_pairs-told w k t now = held_pairs-same (Told w k t) now (λ p. subscribed-told p.0 p.1 w k t now)

pub held_pairs-full : {P T : Type 0} (a : ℕ) (k : Key) (now : Moment P T) → held_pairs (Full a k ∷ now) ≡ held_pairs now
held_pairs-full a k now = held_pairs-same (Full a k) now (λ p. subscribed-full p.0 p.1 a k now)
