-- What each act does to what is pending.
use Rattle.std.proofs.Common.{◌≡◌, ℕ, suc, ◌≤◌, Bool, true, false, ◌&&◌, nat_eq, nat_lt, max, List, [], ◌∷◌, ◌++◌, length, refl, sym, ◌∙◌, arith}
use Rattle.std.proofs.lemmas.Bool.Decides.{nat_tests}
use Rattle.std.proofs.Math.Bool.{and-false, and-true}
use Rattle.qd_scheme.specs.declared.key.Key.{Key}
use Rattle.qd_scheme.specs.declared.key.Record.{Record}
use Rattle.qd_scheme.specs.Keys.{key_eq}
use Rattle.qd_scheme.proofs.KeyLaws.{key_eq-same}
use Rattle.qd_sub.specs.Acts.{Act, Subscribed, Unsubscribed, Closed, Came, Gave, is_pair, is_put, is_gift}
use Rattle.qd_sub.specs.Since.{last_place, since, unbroken}
use Rattle.qd_sub.specs.Subscriptions.{subscribed, kept}
use Rattle.qd_sub.proofs.SinceLaws.{last_place-≤, last_place-yes, last_place-no, since-≤, since-begins, since-same}
use Rattle.qd_sub.proofs.SubscriptionLaws.{subscribed-sub, subscribed-came, subscribed-gave, wanted-subscribed, kept-came_other, kept-came_same, kept-gave, kept-sub, subscribed-unsub, subscribed-closed, kept-unsub_wanted, kept-closed}
use Rattle.qd_ticker.specs.Pending.{TickerMoment, has_items, pending}

pub same-pending : (a : ℕ) (k : Key) (act : Act Record Record) (now : TickerMoment) → subscribed a k (act ∷ now) ≡ subscribed a k now → kept k (act ∷ now) ≡ kept k now → is_gift a k act ≡ false → is_put k act ≡ false → pending a k (act ∷ now) ≡ pending a k now
unfolding pending
same-pending a k act now s q g p =
    rw (s, q, last_place-no (is_gift a k) act now g, last_place-no (is_put k) act now p, since-same (unbroken k) (subscribed a k) act now s refl) refl

pub pending-unsubscribed : (a : ℕ) (k : Key) (now : TickerMoment) → subscribed a k now ≡ false → pending a k now ≡ false
unfolding pending
pending-unsubscribed a k now h = rw h refl

pub pending-came_other : (a : ℕ) (k : Key) (j : Key) (r : Record) (now : TickerMoment) → key_eq k j ≡ false → pending a k (Came j r ∷ now) ≡ pending a k now
pending-came_other a k j r now h = same-pending a k (Came j r) now (subscribed-came a k j r now) (kept-came_other k j r now h) refl h

has-push : (rs : List Record) (r : Record) → has_items (rs ++ r ∷ []) ≡ true
has-push [] r = refl
has-push (q ∷ rs) r = refl

lt-max : (g b l : ℕ) → g ≤ l → nat_lt g (max b (suc l)) ≡ true
lt-max g b l h = grind (arith, nat_tests)

not_lt-max : (b p l : ℕ) → b ≤ suc l → p ≤ l → nat_lt (suc l) (max b p) ≡ false
not_lt-max b p l h k = grind (arith, nat_tests)

pub pending-came_same : (a : ℕ) (k : Key) (r : Record) (now : TickerMoment) → subscribed a k now ≡ true → pending a k (Came k r ∷ now) ≡ true
unfolding pending
pending-came_same a k r now h =
    rw (subscribed-came a k k r now, h, kept-came_same k r now (wanted-subscribed a k now h), has-push (kept k now) r, last_place-no (is_gift a k) (Came k r) now refl, last_place-yes (is_put k) (Came k r) now (key_eq-same k))
    (lt-max (last_place (is_gift a k) now) (since (unbroken k) (subscribed a k) (Came k r ∷ now)) (length now) (last_place-≤ (is_gift a k) now))

pub pending-gave_other : (a : ℕ) (k : Key) (b : ℕ) (j : Key) (r : Record) (now : TickerMoment) → is_pair a k b j ≡ false → pending a k (Gave b j r ∷ now) ≡ pending a k now
pending-gave_other a k b j r now h = same-pending a k (Gave b j r) now (subscribed-gave a k b j r now) (kept-gave k b j r now) h refl

same_number : (n : ℕ) → nat_eq n n ≡ true
same_number n = grind (arith, nat_tests)

pub is_pair-same : (a : ℕ) (k : Key) → is_pair a k a k ≡ true
is_pair-same a k = rw (same_number a) (key_eq-same k)

pub pending-gave_same : (a : ℕ) (k : Key) (r : Record) (now : TickerMoment) → pending a k (Gave a k r ∷ now) ≡ false
unfolding pending
pending-gave_same a k r now =
    rw (
      last_place-yes (is_gift a k) (Gave a k r) now (is_pair-same a k),
      last_place-no (is_put k) (Gave a k r) now refl,
      not_lt-max (since (unbroken k) (subscribed a k) (Gave a k r ∷ now)) (last_place (is_put k) now) (length now) (since-≤ (unbroken k) (subscribed a k) (Gave a k r ∷ now)) (last_place-≤ (is_put k) now),
    )
    (and-false (subscribed a k (Gave a k r ∷ now) && has_items (kept k (Gave a k r ∷ now))))

-- a subscription of a subscribed key, or of another pair
pub pending-sub_other : (a : ℕ) (k : Key) (b : ℕ) (j : Key) (limit : ℕ) (now : TickerMoment) → subscribed a k (Subscribed b j limit ∷ now) ≡ subscribed a k now → pending a k (Subscribed b j limit ∷ now) ≡ pending a k now
pending-sub_other a k b j limit now h = same-pending a k (Subscribed b j limit) now h (kept-sub k b j limit now) refl refl

lt-began : (g l p : ℕ) → g ≤ l → nat_lt g (max (suc l) p) ≡ true
lt-began g l p h = grind (arith, nat_tests)

-- a new subscription finds what is kept pending
pub pending-sub_new : (a : ℕ) (k : Key) (limit : ℕ) (now : TickerMoment) → subscribed a k now ≡ false → pending a k (Subscribed a k limit ∷ now) ≡ has_items (kept k now)
unfolding pending
pending-sub_new a k limit now h =
    let s : subscribed a k (Subscribed a k limit ∷ now) ≡ true = subscribed-sub a k a k limit now ∙ rw (is_pair-same a k) refl in
    rw (
      s,
      kept-sub k a k limit now,
      last_place-no (is_gift a k) (Subscribed a k limit) now refl,
      last_place-no (is_put k) (Subscribed a k limit) now refl,
      since-begins (unbroken k) (subscribed a k) (Subscribed a k limit) now s h,
      lt-began (last_place (is_gift a k) now) (length now) (last_place (is_put k) now) (last_place-≤ (is_gift a k) now),
    )
    (and-true (has_items (kept k now)))

pub pending-unsub_same : (a : ℕ) (k : Key) (now : TickerMoment) → pending a k (Unsubscribed a k ∷ now) ≡ false
pending-unsub_same a k now = pending-unsubscribed a k (Unsubscribed a k ∷ now) (subscribed-unsub a k a k now ∙ rw (is_pair-same a k) refl)

pub pending-unsub_other : (a : ℕ) (k : Key) (b : ℕ) (j : Key) (now : TickerMoment) → is_pair a k b j ≡ false → pending a k (Unsubscribed b j ∷ now) ≡ pending a k now
pending-unsub_other a k b j now h =
    let same : subscribed a k (Unsubscribed b j ∷ now) ≡ subscribed a k now = subscribed-unsub a k b j now ∙ rw h refl in
    let go : (c : Bool) → subscribed a k now ≡ c → pending a k (Unsubscribed b j ∷ now) ≡ pending a k now =
    elim [
      | true ↦ λ e. same-pending a k (Unsubscribed b j) now same (kept-unsub_wanted k b j now (wanted-subscribed a k (Unsubscribed b j ∷ now) (same ∙ e))) refl refl
      | false ↦ λ e. pending-unsubscribed a k (Unsubscribed b j ∷ now) (same ∙ e) ∙ sym (pending-unsubscribed a k now e)
    ] in
    go (subscribed a k now) refl

pub pending-closed : (a : ℕ) (k : Key) (b : ℕ) (now : TickerMoment) → pending a k (Closed b ∷ now) ≡ pending a k now
pending-closed a k b now = same-pending a k (Closed b) now (subscribed-closed a k b now) (kept-closed k b now) refl refl
