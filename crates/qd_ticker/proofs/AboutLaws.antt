-- An act about one key leaves what is kept and pending of every other.
use Rattle.std.proofs.Common.{◌≡◌, ℕ, Bool, true, false, not, if◌then◌else◌, nat_eq, Some, List, [], ◌∷◌, refl, ap, sym, ◌∙◌}
use Rattle.std.specs.List.{filter}
use Rattle.std.proofs.Math.Bool.{and-false}
use Rattle.qd_scheme.specs.declared.key.Key.{Key}
use Rattle.qd_scheme.specs.declared.key.Record.{Record}
use Rattle.qd_scheme.specs.Keys.{key_eq}
use Rattle.qd_scheme.proofs.KeyLaws.{key_eq-true, key_eq-comm}
use Rattle.qd_sub.specs.Acts.{Act, Subscribed, Unsubscribed, Closed, Came, Gave, Told, Full, newest_key, is_put, is_gift}
use Rattle.qd_sub.specs.Since.{unbroken}
use Rattle.qd_sub.specs.Subscriptions.{wanted, kept, and_put}
use Rattle.qd_sub.specs.Holding.{has_key}
use Rattle.qd_sub.proofs.SinceLaws.{grown, by_since-same}
use Rattle.qd_sub.proofs.OrderLaws.{is_about, once, by_since-has, by_since-once}
use Rattle.qd_sub.proofs.OrderSteps.{by_since-about}
use Rattle.qd_sub.proofs.SubscriptionLaws.{kept-unwanted, kept-wanted}
use Rattle.qd_sub.proofs.StepLaws.{subscribed-about, subscribed-empty}
use Rattle.qd_sub.proofs.HeldLaws.{wanted-about}
use Rattle.qd_ticker.specs.Pending.{TickerMoment, last, last_record, pending, queue_of}
use Rattle.qd_ticker.proofs.PendingLaws.{same-pending, pending-unsubscribed}

-- where a key is wanted as before, and the act puts nothing of it, what is kept of it stays
pub kept-same : (k : Key) (act : Act Record Record) (now : TickerMoment) → wanted k (act ∷ now) ≡ wanted k now → ((items : List Record) → and_put k act items ≡ items) → kept k (act ∷ now) ≡ kept k now
kept-same k act now same quiet =
    let go : (c : Bool) → wanted k now ≡ c → kept k (act ∷ now) ≡ kept k now =
    elim [
      | true ↦ λ e. kept-wanted k act now (same ∙ e) ∙ quiet (kept k now)
      | false ↦ λ e. kept-unwanted k (act ∷ now) (same ∙ e) ∙ sym (kept-unwanted k now e)
    ] in
    go (wanted k now) refl

puts-other : (act : Act Record Record) (now : TickerMoment) (k : Key) → is_about key_eq k (newest_key (act ∷ now)) ≡ false → (items : List Record) → and_put k act items ≡ items
puts-other (Subscribed b j limit) now k h items = refl
puts-other (Unsubscribed b j) now k h items = refl
puts-other (Closed b) now k h items = refl
puts-other (Came j item) now k h items = rw h refl
puts-other (Gave b j item) now k h items = refl
puts-other (Told w j total) now k h items = refl
puts-other (Full b j) now k h items = refl

pub kept-about : (act : Act Record Record) (now : TickerMoment) (k : Key) → is_about key_eq k (newest_key (act ∷ now)) ≡ false → kept k (act ∷ now) ≡ kept k now
kept-about act now k h = kept-same k act now (wanted-about act now k h) (puts-other act now k h)

gift-other : (a : ℕ) (act : Act Record Record) (now : TickerMoment) (k : Key) → is_about key_eq k (newest_key (act ∷ now)) ≡ false → is_gift a k act ≡ false
gift-other a (Subscribed b j limit) now k h = refl
gift-other a (Unsubscribed b j) now k h = refl
gift-other a (Closed b) now k h = refl
gift-other a (Came j item) now k h = refl
gift-other a (Gave b j item) now k h = rw h (and-false (nat_eq a b))
gift-other a (Told w j total) now k h = refl
gift-other a (Full b j) now k h = refl

put-other : (act : Act Record Record) (now : TickerMoment) (k : Key) → is_about key_eq k (newest_key (act ∷ now)) ≡ false → is_put k act ≡ false
put-other (Subscribed b j limit) now k h = refl
put-other (Unsubscribed b j) now k h = refl
put-other (Closed b) now k h = refl
put-other (Came j item) now k h = h
put-other (Gave b j item) now k h = refl
put-other (Told w j total) now k h = refl
put-other (Full b j) now k h = refl

pub pending-about : (a : ℕ) (act : Act Record Record) (now : TickerMoment) (k : Key) → is_about key_eq k (newest_key (act ∷ now)) ≡ false → pending a k (act ∷ now) ≡ pending a k now
pending-about a act now k h = same-pending a k act now (subscribed-about a act now k h) (kept-about act now k h) (gift-other a act now k h) (put-other act now k h)

pub last_record-about : (act : Act Record Record) (now : TickerMoment) (k : Key) → is_about key_eq k (newest_key (act ∷ now)) ≡ false → last_record k (act ∷ now) ≡ last_record k now
unfolding last_record
last_record-about act now k h = ap last (kept-about act now k h)

pub pending-empty : (a : ℕ) (k : Key) → pending a k [] ≡ false
pending-empty a k = pending-unsubscribed a k [] (subscribed-empty _ _ a k)

-- the pending keys of an agent
pub queue_of-has : (a : ℕ) (now : TickerMoment) (k : Key) → has_key (queue_of a now) k ≡ pending a k now
unfolding queue_of
queue_of-has a now k = by_since-has newest_key (pending a) key_eq key_eq-true (pending-empty a) (pending-about a) now k

pub queue_of-once : (a : ℕ) (now : TickerMoment) → once key_eq (queue_of a now) ≡ true
unfolding queue_of
queue_of-once a now = by_since-once newest_key (pending a) key_eq key_eq-true key_eq-comm (pending-empty a) (pending-about a) now

-- an act about k leaves them, with k last where it becomes pending, and without it where it is not
pub queue_of-about : (a : ℕ) (act : Act Record Record) (now : TickerMoment) (k : Key) → newest_key (act ∷ now) ≡ Some k → queue_of a (act ∷ now) ≡ (if pending a k (act ∷ now) then grown key_eq (queue_of a now) k else filter (λ j. not (key_eq k j)) (queue_of a now))
unfolding queue_of
queue_of-about a act now k about =
    by_since-about newest_key unbroken (pending a) key_eq key_eq-true act now k about (λ j. refl) (λ j e. pending-about a act now j (ap (is_about key_eq j) about ∙ key_eq-comm j k ∙ e)) (queue_of-has a now k)

-- an act that leaves what is pending
pub queue_of-same : (a : ℕ) (act : Act Record Record) (now : TickerMoment) → ((k : Key) → pending a k (act ∷ now) ≡ pending a k now) → queue_of a (act ∷ now) ≡ queue_of a now
unfolding queue_of
queue_of-same a act now same = by_since-same newest_key (pending a) act now same
