-- What the acts of each op leave of what a ticker keeps by slots.
use Rattle.std.proofs.Common.{◌≡◌, ℕ, Bool, true, false, ◌&&◌, ◌||◌, not, if◌then◌else◌, nat_eq, Option, Some, None, is_some, List, [], ◌∷◌, ◌++◌, refl, ap, sym, ◌∙◌, arith}
use Rattle.std.proofs.lemmas.Bool.Decides.{nat_tests}
use Rattle.qd_scheme.specs.declared.key.Key.{Key}
use Rattle.qd_scheme.specs.declared.key.Record.{Record}
use Rattle.qd_scheme.specs.Keys.{key_eq}
use Rattle.qd_scheme.proofs.KeyLaws.{key_eq-true}
use Rattle.qd_pend.specs.Slots.{has, without}
use Rattle.qd_pend.proofs.ListLaws.{same, equal, without-absent}
use Rattle.qd_sub.specs.Acts.{Subscribed, Unsubscribed, Closed, Came, Gave, Told, is_pair}
use Rattle.qd_sub.specs.Subscriptions.{subscribed, wanted, kept}
use Rattle.qd_sub.proofs.SubscriptionLaws.{subscribed-sub, subscribed-came, kept-came_other, kept-came_same, kept-came_unwanted, kept-gave, kept-sub, kept-closed, kept-unsub_wanted, wanted-subscribed}
use Rattle.qd_sub.proofs.StepLaws.{subscribed-told}
use Rattle.qd_sub.proofs.WatchLaws.{wanted-told}
use Rattle.qd_ticker.specs.Pending.{TickerMoment, last, last_record, has_items, pending}
use Rattle.qd_ticker.specs.Kept.{with_slot, pending_name, last_name, IsKept}
use Rattle.qd_ticker.proofs.PendingLaws.{same-pending, pending-unsubscribed, pending-came_other, pending-came_same, pending-gave_other, pending-gave_same, pending-sub_other, pending-sub_new, pending-unsub_same, pending-unsub_other, pending-closed, is_pair-same}
use Rattle.qd_ticker.proofs.AboutLaws.{kept-same}
use Rattle.qd_table.proofs.SlotKeys.{IsApart}
use Rattle.qd_ticker.proofs.KeptLaws.{kept-quiet, kept-moved, last_record-unwanted}

-- what is kept of a key
abbrev items_kept : Key → TickerMoment → List Record
items_kept k now = kept k now

turn : (m n : ℕ) → nat_eq n m ≡ nat_eq m n
turn m n = grind (arith, nat_tests)

-- with the keys of the slots, what is kept, and of one slot its key
pub record IsAt (name : ℕ → Option Key) (lasts : ℕ → Option Record) (queues : ℕ → List ℕ) (now : TickerMoment) (slot : ℕ) (k : Key) : Type 0 where
  pub apart : IsApart name
  pub here : name slot ≡ Some k
  pub kept : IsKept name lasts queues now

pub last-push : (rs : List Record) (r : Record) → last (rs ++ r ∷ []) ≡ Some r
last-push [] r = refl
last-push (q ∷ []) r = refl
last-push (q ∷ p ∷ rs) r = last-push (p ∷ rs) r

some-items : (rs : List Record) → has_items rs ≡ is_some (last rs)
some-items [] = refl
some-items (r ∷ []) = refl
some-items (p ∷ q ∷ rs) = some-items (q ∷ rs)

has-queued : (name : ℕ → Option Key) (lasts : ℕ → Option Record) (queues : ℕ → List ℕ) (now : TickerMoment) (slot : ℕ) (k : Key) → IsAt name lasts queues now slot k → (a : ℕ) → has (queues a) slot ≡ pending a k now
has-queued name lasts queues now slot k at_slot a = at_slot.kept.waiting a slot ∙ ap (λ o. pending_name a o now) at_slot.here

last-there : (name : ℕ → Option Key) (lasts : ℕ → Option Record) (queues : ℕ → List ℕ) (now : TickerMoment) (slot : ℕ) (k : Key) → IsAt name lasts queues now slot k → (s : ℕ) → nat_eq slot s ≡ true → lasts s ≡ last_record k now
last-there name lasts queues now slot k at_slot s e = ap lasts (sym (equal slot s e)) ∙ at_slot.kept.records slot ∙ ap (λ o. last_name o now) at_slot.here

-- a queue in which the slot stands just where its key is pending stays
stays : (list : List ℕ) (slot : ℕ) (b : Bool) → has list slot ≡ b → list ≡ (if b then with_slot list slot else without list slot)
stays list slot true e = rw e refl
stays list slot false e = sym (without-absent list slot e)

-- a Put of a wanted key
pub kept-put : (name : ℕ → Option Key) (lasts lasts' : ℕ → Option Record) (queues queues' : ℕ → List ℕ) (now : TickerMoment) (slot : ℕ) (r : Record) → IsAt name lasts queues now slot r.key → wanted r.key now ≡ true →
    ((s : ℕ) → lasts' s ≡ (if nat_eq slot s then Some r else lasts s)) → ((a : ℕ) → queues' a ≡ (if subscribed a r.key now then with_slot (queues a) slot else queues a)) → IsKept name lasts' queues' (Came r.key r ∷ now)
unfolding last_record
kept-put name lasts lasts' queues queues' now slot r at_slot want ls qs =
    kept-moved name lasts lasts' queues queues' (Came r.key r) now slot r.key at_slot.apart at_slot.here refl
    (record {
      lasts_then = λ s. ls s ∙ ap (λ o. if nat_eq slot s then o else lasts s) (sym last_then);
      queues_then = λ a. qs a ∙ queue_then a (subscribed a r.key now) refl;
    })
    at_slot.kept
  where
    last_then : last_record r.key (Came r.key r ∷ now) ≡ Some r
    last_then = ap last (kept-came_same r.key r now want) ∙ last-push (kept r.key now) r

    queue_then : (a : ℕ) (b : Bool) → subscribed a r.key now ≡ b → (if b then with_slot (queues a) slot else queues a) ≡ (if pending a r.key (Came r.key r ∷ now) then with_slot (queues a) slot else without (queues a) slot)
    queue_then a true e = rw (pending-came_same a r.key r now e) refl
    queue_then a false e =
        rw (pending-unsubscribed a r.key (Came r.key r ∷ now) (subscribed-came a r.key r.key r now ∙ e))
        (stays (queues a) slot false (has-queued name lasts queues now slot r.key at_slot a ∙ pending-unsubscribed a r.key now e))

-- a Put of an unwanted key
pub kept-put_unwanted : (name : ℕ → Option Key) (lasts : ℕ → Option Record) (queues : ℕ → List ℕ) (now : TickerMoment) (r : Record) → wanted r.key now ≡ false → IsKept name lasts queues now → IsKept name lasts queues (Came r.key r ∷ now)
unfolding last_record
kept-put_unwanted name lasts queues now r h kept = kept-quiet name lasts queues (Came r.key r) now (λ k. ap_last k (key_eq k r.key) refl) (λ a k. pending_then a k (key_eq k r.key) refl) kept
  where
    kept_then : (k : Key) (b : Bool) → key_eq k r.key ≡ b → items_kept k (Came r.key r ∷ now) ≡ items_kept k now
    kept_then k true e = kept-came_unwanted k r.key r now (ap (λ j. wanted j now) (key_eq-true k r.key e) ∙ h)
    kept_then k false e = kept-came_other k r.key r now e

    ap_last : (k : Key) (b : Bool) → key_eq k r.key ≡ b → last_record k (Came r.key r ∷ now) ≡ last_record k now
    ap_last k b e = ap last (kept_then k b e)

    nobody : (a : ℕ) → subscribed a r.key now ≡ false
    nobody a =
        let go : (c : Bool) → subscribed a r.key now ≡ c → c ≡ false =
        elim [ true ↦ λ e. sym (wanted-subscribed a r.key now e) ∙ h | false ↦ λ e. refl ] in
        go (subscribed a r.key now) refl

    pending_then : (a : ℕ) (k : Key) (b : Bool) → key_eq k r.key ≡ b → pending a k (Came r.key r ∷ now) ≡ pending a k now
    pending_then a k true e =
        let no : subscribed a k now ≡ false = ap (λ j. subscribed a j now) (key_eq-true k r.key e) ∙ nobody a in
        pending-unsubscribed a k (Came r.key r ∷ now) (subscribed-came a k r.key r now ∙ no) ∙ sym (pending-unsubscribed a k now no)
    pending_then a k false e = pending-came_other a k r.key r now e

-- a gift
pub kept-gift : (name : ℕ → Option Key) (lasts : ℕ → Option Record) (queues queues' : ℕ → List ℕ) (now : TickerMoment) (slot : ℕ) (k : Key) (a : ℕ) (r : Record) → IsAt name lasts queues now slot k →
    ((b : ℕ) → queues' b ≡ (if nat_eq a b then without (queues b) slot else queues b)) → IsKept name lasts queues' (Gave a k r ∷ now)
unfolding last_record
kept-gift name lasts queues queues' now slot k a r at_slot qs =
    kept-moved name lasts lasts queues queues' (Gave a k r) now slot k at_slot.apart at_slot.here refl
    (record { lasts_then = λ s. last_then s (nat_eq slot s) refl; queues_then = λ b. qs b ∙ queue_then b (nat_eq a b) refl })
    at_slot.kept
  where
    same_last : last_record k (Gave a k r ∷ now) ≡ last_record k now
    same_last = ap last (kept-gave k a k r now)

    last_then : (s : ℕ) (c : Bool) → nat_eq slot s ≡ c → lasts s ≡ (if c then last_record k (Gave a k r ∷ now) else lasts s)
    last_then s true e = last-there name lasts queues now slot k at_slot s e ∙ sym same_last
    last_then s false e = refl

    apart_pair : (b : ℕ) → nat_eq a b ≡ false → is_pair b k a k ≡ false
    apart_pair b e = ap (λ c. c && key_eq k k) (turn a b ∙ e)

    queue_then : (b : ℕ) (c : Bool) → nat_eq a b ≡ c → (if c then without (queues b) slot else queues b) ≡ (if pending b k (Gave a k r ∷ now) then with_slot (queues b) slot else without (queues b) slot)
    queue_then b true e = rw (ap (λ d. pending d k (Gave a k r ∷ now)) (sym (equal a b e)) ∙ pending-gave_same a k r now) refl
    queue_then b false e = rw (pending-gave_other b k a k r now (apart_pair b e)) (stays (queues b) slot (pending b k now) (has-queued name lasts queues now slot k at_slot b))

-- the end of a subscription
pub kept-end : (name : ℕ → Option Key) (lasts lasts' : ℕ → Option Record) (queues queues' : ℕ → List ℕ) (now : TickerMoment) (slot : ℕ) (k : Key) (a : ℕ) → IsAt name lasts queues now slot k →
    ((s : ℕ) → lasts' s ≡ (if nat_eq slot s && not (wanted k (Unsubscribed a k ∷ now)) then None else lasts s)) → ((b : ℕ) → queues' b ≡ (if nat_eq a b then without (queues b) slot else queues b)) →
    IsKept name lasts' queues' (Unsubscribed a k ∷ now)
unfolding last_record
kept-end name lasts lasts' queues queues' now slot k a at_slot ls qs =
    kept-moved name lasts lasts' queues queues' (Unsubscribed a k) now slot k at_slot.apart at_slot.here refl
    (record { lasts_then = λ s. ls s ∙ last_then s (nat_eq slot s) refl (wanted k (Unsubscribed a k ∷ now)) refl; queues_then = λ b. qs b ∙ queue_then b (nat_eq a b) refl })
    at_slot.kept
  where
    still : wanted k (Unsubscribed a k ∷ now) ≡ true → last_record k (Unsubscribed a k ∷ now) ≡ last_record k now
    still h = ap last (kept-unsub_wanted k a k now h)

    last_then : (s : ℕ) (c : Bool) → nat_eq slot s ≡ c → (d : Bool) → wanted k (Unsubscribed a k ∷ now) ≡ d → (if c && not d then None else lasts s) ≡ (if c then last_record k (Unsubscribed a k ∷ now) else lasts s)
    last_then s false e d f = refl
    last_then s true e true f = last-there name lasts queues now slot k at_slot s e ∙ sym (still f)
    last_then s true e false f = sym (last_record-unwanted k (Unsubscribed a k ∷ now) f)

    apart_pair : (b : ℕ) → nat_eq a b ≡ false → is_pair b k a k ≡ false
    apart_pair b e = ap (λ c. c && key_eq k k) (turn a b ∙ e)

    queue_then : (b : ℕ) (c : Bool) → nat_eq a b ≡ c → (if c then without (queues b) slot else queues b) ≡ (if pending b k (Unsubscribed a k ∷ now) then with_slot (queues b) slot else without (queues b) slot)
    queue_then b true e = rw (ap (λ d. pending d k (Unsubscribed a k ∷ now)) (sym (equal a b e)) ∙ pending-unsub_same a k now) refl
    queue_then b false e = rw (pending-unsub_other b k a k now (apart_pair b e)) (stays (queues b) slot (pending b k now) (has-queued name lasts queues now slot k at_slot b))

-- a subscription
pub kept-subscription : (name : ℕ → Option Key) (lasts : ℕ → Option Record) (queues queues' : ℕ → List ℕ) (now : TickerMoment) (slot : ℕ) (k : Key) (a limit : ℕ) → IsAt name lasts queues now slot k →
    ((b : ℕ) → queues' b ≡ (if nat_eq a b && (not (subscribed a k now) && is_some (lasts slot)) then with_slot (queues b) slot else queues b)) →
    IsKept name lasts queues' (Subscribed a k limit ∷ now)
unfolding last_record
kept-subscription name lasts queues queues' now slot k a limit at_slot qs =
    kept-moved name lasts lasts queues queues' (Subscribed a k limit) now slot k at_slot.apart at_slot.here refl
    (record { lasts_then = λ s. last_then s (nat_eq slot s) refl; queues_then = λ b. qs b ∙ queue_then b (nat_eq a b) refl (subscribed a k now) refl (is_some (lasts slot)) refl })
    at_slot.kept
  where
    same_last : last_record k (Subscribed a k limit ∷ now) ≡ last_record k now
    same_last = ap last (kept-sub k a k limit now)

    last_then : (s : ℕ) (c : Bool) → nat_eq slot s ≡ c → lasts s ≡ (if c then last_record k (Subscribed a k limit ∷ now) else lasts s)
    last_then s true e = last-there name lasts queues now slot k at_slot s e ∙ sym same_last
    last_then s false e = refl

    found : subscribed a k now ≡ false → pending a k (Subscribed a k limit ∷ now) ≡ is_some (lasts slot)
    found h = pending-sub_new a k limit now h ∙ some-items (kept k now) ∙ ap is_some (sym (last-there name lasts queues now slot k at_slot slot (same slot)))

    before : (b : ℕ) → pending b k (Subscribed a k limit ∷ now) ≡ pending b k now → queues b ≡ (if pending b k (Subscribed a k limit ∷ now) then with_slot (queues b) slot else without (queues b) slot)
    before b e = rw e (stays (queues b) slot (pending b k now) (has-queued name lasts queues now slot k at_slot b))

    queue_then : (b : ℕ) (c : Bool) → nat_eq a b ≡ c → (d : Bool) → subscribed a k now ≡ d → (e : Bool) → is_some (lasts slot) ≡ e →
        (if c && (not d && e) then with_slot (queues b) slot else queues b) ≡ (if pending b k (Subscribed a k limit ∷ now) then with_slot (queues b) slot else without (queues b) slot)
    queue_then b false f d g e h = before b (pending-sub_other b k a k limit now (subscribed-sub b k a k limit now ∙ ap (λ c. (c && key_eq k k) || subscribed b k now) (turn a b ∙ f)))
    queue_then b true f true g e h =
        let same_agent : a ≡ b = equal a b f in
        before b (ap (λ x. pending x k (Subscribed a k limit ∷ now)) (sym same_agent) ∙ pending-sub_other a k a k limit now (subscribed-sub a k a k limit now ∙ ap (λ c. c || subscribed a k now) (is_pair-same a k) ∙ sym g) ∙ ap (λ x. pending x k now) same_agent)
    queue_then b true f false g true h = rw (ap (λ x. pending x k (Subscribed a k limit ∷ now)) (sym (equal a b f)) ∙ found g ∙ h) refl
    queue_then b true f false g false h =
        let same_agent : a ≡ b = equal a b f in
        before b (ap (λ x. pending x k (Subscribed a k limit ∷ now)) (sym same_agent) ∙ found g ∙ h ∙ sym (pending-unsubscribed a k now g) ∙ ap (λ x. pending x k now) same_agent)

-- the end of all of an agent's subscriptions
pub kept-close : (name : ℕ → Option Key) (lasts : ℕ → Option Record) (queues : ℕ → List ℕ) (now : TickerMoment) (a : ℕ) → IsKept name lasts queues now → IsKept name lasts queues (Closed a ∷ now)
unfolding last_record
kept-close name lasts queues now a kept = kept-quiet name lasts queues (Closed a) now (λ k. ap last (kept-closed k a now)) (λ b k. pending-closed b k a now) kept

-- a telling
pub kept-telling : (name : ℕ → Option Key) (lasts : ℕ → Option Record) (queues : ℕ → List ℕ) (now : TickerMoment) (w : ℕ) (k : Key) (total : Option ℕ) → IsKept name lasts queues now → IsKept name lasts queues (Told w k total ∷ now)
unfolding last_record
kept-telling name lasts queues now w k total kept =
    let same_kept = λ (j : Key). kept-same j (Told w k total) now (wanted-told j w k total now) (λ items. refl) in
    kept-quiet name lasts queues (Told w k total) now (λ j. ap last (same_kept j)) (λ a j. same-pending a j (Told w k total) now (subscribed-told a j w k total now) (same_kept j) refl refl) kept
