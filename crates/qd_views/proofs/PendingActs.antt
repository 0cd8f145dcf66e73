-- What each act does to what is pending for an agent.
use Rattle.std.proofs.Common.{◌≡◌, ◌⊎◌, inl, inr, ℕ, suc, ◌≤◌, true, false, ◌&&◌, nat_lt, max, List, [], ◌∷◌, ◌++◌, length, refl, sym, ◌∙◌, arith}
use Rattle.std.proofs.lemmas.Bool.{cases_Bool}
use Rattle.std.proofs.lemmas.Bool.Decides.{nat_tests}
use Rattle.std.proofs.Math.Bool.{and-false, and-true}
use Rattle.qd_scheme.specs.declared.key.Key.{Key}
use Rattle.qd_scheme.specs.declared.key.Record.{Record}
use Rattle.qd_scheme.specs.Keys.{key_eq}
use Rattle.qd_scheme.proofs.KeyLaws.{key_eq-same, key_eq-true, key_eq-comm}
use Rattle.qd_sub.specs.Acts.{Act, Subscribed, Unsubscribed, Came, Gave, is_put, is_gift, newest_key}
use Rattle.qd_sub.specs.Since.{last_place, since, unbroken}
use Rattle.qd_sub.specs.Subscriptions.{subscribed, kept}
use Rattle.qd_sub.proofs.OrderLaws.{is_about, once, by_since-once}
use Rattle.qd_sub.proofs.SinceLaws.{last_place-≤, last_place-yes, last_place-no, since-≤, since-begins, since-same}
use Rattle.qd_sub.proofs.SubscriptionLaws.{subscribed-sub, subscribed-unsub, subscribed-came, wanted-subscribed, kept-came_same, kept-sub}
use Rattle.qd_sub.proofs.StepLaws.{subscribed-empty}
use Rattle.qd_ticker.specs.Pending.{TickerMoment, has_items, pending, queue_of}
use Rattle.qd_views.proofs.ActKinds.{IsQuiet, Kind, Puts, Gives, Begins, Ends, Rests, kind_of, pair-same}

pub pending-unsubscribed : (a : ℕ) (k : Key) (now : TickerMoment) → subscribed a k now ≡ false → pending a k now ≡ false
unfolding pending
pending-unsubscribed a k now h = rw h refl

pub pending-quiet : (a : ℕ) (k : Key) (act : Act Record Record) (past : TickerMoment) → IsQuiet a k act past → pending a k (act ∷ past) ≡ pending a k past
unfolding pending
pending-quiet a k act past q = go (cases_Bool (subscribed a k past))
  where
    go : (subscribed a k past ≡ true) ⊎ (subscribed a k past ≡ false) → pending a k (act ∷ past) ≡ pending a k past
    go (inr e) = pending-unsubscribed a k (act ∷ past) (q.same ∙ e) ∙ sym (pending-unsubscribed a k past e)
    go (inl e) =
        rw (q.same, q.kept_same e, last_place-no (is_gift a k) act past q.no_gift, last_place-no (is_put k) act past q.no_put, since-same (unbroken k) (subscribed a k) act past q.same refl) refl

pub has-push : (rs : List Record) (r : Record) → has_items (rs ++ r ∷ []) ≡ true
has-push [] r = refl
has-push (q ∷ rs) r = refl

lt-max : (g b l : ℕ) → g ≤ l → nat_lt g (max b (suc l)) ≡ true
lt-max g b l h = grind (arith, nat_tests)

not_lt-max : (b p l : ℕ) → b ≤ suc l → p ≤ l → nat_lt (suc l) (max b p) ≡ false
not_lt-max b p l h k = grind (arith, nat_tests)

lt-began : (g l p : ℕ) → g ≤ l → nat_lt g (max (suc l) p) ≡ true
lt-began g l p h = grind (arith, nat_tests)

-- a record put for a subscribed agent is pending
pub pending-put : (a : ℕ) (k : Key) (r : Record) (past : TickerMoment) → subscribed a k past ≡ true → pending a k (Came k r ∷ past) ≡ true
unfolding pending
pending-put a k r past h =
    rw (subscribed-came a k k r past, h, kept-came_same k r past (wanted-subscribed a k past h), has-push (kept k past) r, last_place-no (is_gift a k) (Came k r) past refl, last_place-yes (is_put k) (Came k r) past (key_eq-same k))
    (lt-max (last_place (is_gift a k) past) (since (unbroken k) (subscribed a k) (Came k r ∷ past)) (length past) (last_place-≤ (is_gift a k) past))

-- one given is pending no more
pub pending-gift : (a : ℕ) (k : Key) (r : Record) (past : TickerMoment) → pending a k (Gave a k r ∷ past) ≡ false
unfolding pending
pending-gift a k r past =
    rw (
      last_place-yes (is_gift a k) (Gave a k r) past (pair-same a k),
      last_place-no (is_put k) (Gave a k r) past refl,
      not_lt-max (since (unbroken k) (subscribed a k) (Gave a k r ∷ past)) (last_place (is_put k) past) (length past) (since-≤ (unbroken k) (subscribed a k) (Gave a k r ∷ past)) (last_place-≤ (is_put k) past),
    )
    (and-false (subscribed a k (Gave a k r ∷ past) && has_items (kept k (Gave a k r ∷ past))))

-- a new subscription finds what is kept pending
pub pending-begin : (a : ℕ) (k : Key) (limit : ℕ) (past : TickerMoment) → subscribed a k past ≡ false → pending a k (Subscribed a k limit ∷ past) ≡ has_items (kept k past)
unfolding pending
pending-begin a k limit past h =
    let s : subscribed a k (Subscribed a k limit ∷ past) ≡ true = subscribed-sub a k a k limit past ∙ rw (pair-same a k) refl in
    rw (
      s,
      kept-sub k a k limit past,
      last_place-no (is_gift a k) (Subscribed a k limit) past refl,
      last_place-no (is_put k) (Subscribed a k limit) past refl,
      since-begins (unbroken k) (subscribed a k) (Subscribed a k limit) past s h,
      lt-began (last_place (is_gift a k) past) (length past) (last_place (is_put k) past) (last_place-≤ (is_gift a k) past),
    )
    (and-true (has_items (kept k past)))

pub pending-end : (a : ℕ) (k : Key) (past : TickerMoment) → pending a k (Unsubscribed a k ∷ past) ≡ false
pending-end a k past = pending-unsubscribed a k (Unsubscribed a k ∷ past) (subscribed-unsub a k a k past ∙ rw (pair-same a k) refl)

-- an act about another key leaves what is pending
pending-about : (a : ℕ) (act : Act Record Record) (past : TickerMoment) (k : Key) → is_about key_eq k (newest_key (act ∷ past)) ≡ false → pending a k (act ∷ past) ≡ pending a k past
pending-about a act past k h = go act (kind_of a k act past) h
  where
    apart : (act : Act Record Record) → key_eq k k ≡ false → pending a k (act ∷ past) ≡ pending a k past
    apart act e = let z = sym (key_eq-same k) ∙ e in cc z

    go : (act : Act Record Record) → Kind a k past act → is_about key_eq k (newest_key (act ∷ past)) ≡ false → pending a k (act ∷ past) ≡ pending a k past
    go _ (Puts r) h = apart (Came k r) h
    go _ (Gives r) h = apart (Gave a k r) h
    go _ (Begins limit s) h = apart (Subscribed a k limit) h
    go _ Ends h = apart (Unsubscribed a k) h
    go _ (Rests act q) h = pending-quiet a k act past q

pub queue-once : (a : ℕ) (now : TickerMoment) → once key_eq (queue_of a now) ≡ true
unfolding queue_of
queue-once a now = by_since-once newest_key (pending a) key_eq key_eq-true key_eq-comm (λ k. pending-unsubscribed a k [] (subscribed-empty _ _ a k)) (pending-about a) now
