-- After a key that had its turn comes last the stripe stands for the moment with the mark.
use Rattle.std.proofs.Common.{◌≡◌, ℕ, ◌≤◌, Bool, true, false, ◌&&◌, not, if◌then◌else◌, nat_eq, Option, Some, None, is_some, List, [], ◌∷◌, ◌++◌, length, refl, ap, sym, ◌∙◌, subst, inl}
use Rattle.std.specs.List.{filter}
use Rattle.qd_scheme.specs.declared.key.Key.{Key}
use Rattle.qd_scheme.specs.Keys.{key_eq}
use Rattle.qd_gate.specs.declared.machine.Terms.{Terms}
use Rattle.qd_pend.specs.Slots.{has, EachOnce}
use Rattle.qd_pend.proofs.ListLaws.{equal}
use Rattle.qd_sub.specs.Acts.{Full}
use Rattle.qd_sub.proofs.HeldLaws.{limit_of-quiet}
use Rattle.qd_slots.specs.Holds.{is_subscribed}
use Rattle.qd_slots.specs.Views.{queued_again}
use Rattle.qd_table.specs.Tables.{Table, key_at, keys_at, hold_for, limit_for, order_of}
use Rattle.qd_table.specs.Standing as table
use Rattle.qd_table.proofs.TableLaws.{apart-numbers}
use Rattle.qd_table.proofs.ListLaws.{again-other, again-own, again-once}
use Rattle.qd_table.proofs.KeyLists.{keys-again}
use Rattle.qd_table.proofs.StandOthers.{stands-full}
use Rattle.qd_hist_key.specs.Kept.{Kept}
use Rattle.qd_hist_rules.specs.Moments.{HistMoment, events}
use Rattle.qd_hist_rules.specs.Standing.{is_due, due_keys}
use Rattle.qd_hist_rules.specs.Lawful.{Lawful}
use Rattle.qd_hist_rules.proofs.DueKeys.{due_mark}
use Rattle.qd_hist_rules.proofs.DueOrder.{due_keys-mark, due_keys-same}
use Rattle.qd_hist_feed.specs.Feeding.{Feeding, is_done}
use Rattle.qd_hist_feed.proofs.Sweeping.{quiet_stands}
use Rattle.qd_hist_stand.specs.Stripes.{Shown, StandsAt, IsFed, AllOf, no_keeps, state_at, feed_at, queue_at, owed_at, owed_of, floor_in, due_at, terms_in}
use Rattle.qd_hist_stand.specs.Steps.{IsTurned}
use Rattle.qd_hist_stand.proofs.Elsewhere.{made-none}
use Rattle.qd_hist_stand.proofs.Base.{feed-of, due-is, queue-own, terms-same}
use Rattle.qd_hist_stand.proofs.Sums.{sum-agree}
use Rattle.qd_hist_stand.proofs.Still.{KeysStand, still-full, keys-still}

-- the queue has the slots that it had
has-again : (list : List ℕ) (slot j : ℕ) → has (queued_again list slot (has list slot)) j ≡ has list j
has-again list slot j =
    let go : (c : Bool) → nat_eq j slot ≡ c → has (queued_again list slot (has list slot)) j ≡ has list j =
    elim [
      | true ↦ λ e. ap (λ (x : ℕ). has (queued_again list slot (has list slot)) x) (equal j slot e) ∙ again-own list slot (has list slot) ∙ ap (λ (x : ℕ). has list x) (sym (equal j slot e))
      | false ↦ λ e. again-other list slot (has list slot) j (apart-numbers j slot e)
    ] in
    go (nat_eq j slot) refl

fed-then : (s : Shown) (a : ℕ) (k : Key) (now : HistMoment) → StandsAt s now → (b j : ℕ) (o : Option Key) → key_at s.table j ≡ o → IsFed (terms_in s) b o (feed_at s b j) (Full a k ∷ now)
fed-then s a k now st b j None e = subst (λ (o : Option Key). IsFed (terms_in s) b o (feed_at s b j) now) e (st.feeds b j)
fed-then s a k now st b j (Some y) e =
    quiet_stands (terms_in s) b y (feed_at s b j) (Full a k) now
    (record { no_gift = refl; no_commit = made-none s.base y (Full a k) now refl; same_limit = limit_of-quiet b y (Full a k) now refl; no_sub = refl })
    (feed-of s now st b j y e)

order-then : (s : Shown) (a slot : ℕ) (k : Key) (now : HistMoment) → StandsAt s now → key_at s.table slot ≡ Some k → (b : ℕ) (c : Bool) → nat_eq b a ≡ c
    → due_keys (terms_in s) b (Full a k ∷ now) ≡ keys_at s.table (if c then queued_again (queue_at s b) slot (has (queue_at s b) slot) else queue_at s b)
order-then s a slot k now st own b true e =
    ap (λ (x : ℕ). due_keys (terms_in s) b (Full x k ∷ now)) (sym (equal b a e)) ∙ due_keys-mark (terms_in s) b k now
    ∙ ap (λ (ks : List Key). filter (λ (y : Key). not (key_eq k y)) ks ++ (if is_due (terms_in s) b k now then k ∷ [] else [])) (st.order b)
    ∙ ap (λ (x : Bool). filter (λ (y : Key). not (key_eq k y)) (keys_at s.table (queue_at s b)) ++ (if x then k ∷ [] else [])) (sym (st.due b slot ∙ due-is s now st b slot k own))
    ∙ sym (keys-again s.table s.table k slot (queue_at s b) (has (queue_at s b) slot) (queue-own s now st b slot k (inl (st.table.sound.found slot k own))) (λ i d. refl) (λ w. own))
order-then s a slot k now st own b false e =
    due_keys-same (terms_in s) b (Full a k) now (λ y. ap (λ (c : Bool). c && key_eq y k) e) (λ y. due_mark (terms_in s) b a k now y) ∙ st.order b

-- the stripe stands for the moment with the mark
pub stands-turned : (s t : Shown) (a : ℕ) (k : Key) (slot : ℕ) (now : HistMoment) → StandsAt s now → key_at s.table slot ≡ Some k → IsTurned s a slot t → StandsAt t (Full a k ∷ now)
stands-turned s t a k slot now st own turned = record {
  table = subst (λ (x : Table). table.StandsFor x no_keeps act_now) (sym turned.table) (stands-full s.table no_keeps a k now st.table);
  lawful = subst (λ (x : Terms). Lawful x act_now) (sym terms) st.lawful;
  count_is = keys.count_is;
  stock_is = keys.stock_is;
  states = keys.states;
  numbers = keys.numbers;
  feeds = λ b j. subst (λ (x : Terms). IsFed x b (key_at t.table j) (feed_at t b j) act_now) (sym terms)
      (subst (λ (x : Table). IsFed (terms_in s) b (key_at x j) (feed_at t b j) act_now) (sym turned.table)
      (subst (λ (x : Feeding). IsFed (terms_in s) b (key_at s.table j) x act_now) (sym (turned.feeds b j)) (fed-then s a k now st b j (key_at s.table j) refl)));
  labels = keys.labels;
  owed_labels = λ b j y n. subst (λ (x : Feeding). AllOf y (events x.owed)) (sym (turned.feeds b j)) (st.owed_labels b j y (sym (ap (λ (x : Table). key_at x j) turned.table) ∙ n));
  unfed = λ b j h. turned.feeds b j ∙ st.unfed b j (sym (ap (λ (x : Table). is_subscribed (hold_for x b j)) turned.table) ∙ h);
  due = λ b j. ap (λ (q : List ℕ). has q j) (turned.queues b) ∙ has_then b j (nat_eq b a) ∙ st.due b j ∙ sym (due_same b j);
  once = λ b. subst (λ (q : List ℕ). EachOnce q) (sym (turned.queues b)) (once_then b (nat_eq b a));
  order = λ b. ap (λ (x : Terms). due_keys x b act_now) terms ∙ order-then s a slot k now st own b (nat_eq b a) refl
      ∙ sym (ap (λ (x : Table). keys_at x (queue_at t b)) turned.table ∙ ap (λ (q : List ℕ). keys_at s.table q) (turned.queues b));
  owed = λ b. turned.owed b ∙ st.owed b
      ∙ sym (ap (λ (x : Table). owed_of t b (order_of x b)) turned.table
      ∙ sum-agree (λ (j : ℕ). length (feed_at s b j).owed) (λ (j : ℕ). length (feed_at t b j).owed) (order_of s.table b) (λ j h. ap (λ (x : Feeding). length x.owed) (turned.feeds b j)));
  within = λ b. subst (λ (n : ℕ). owed_at t b ≤ n) (sym turned.numbers.hcap) (subst (λ (n : ℕ). n ≤ s.hcap) (sym (turned.owed b)) (st.within b));
}
  where
    act_now : HistMoment
    act_now = Full a k ∷ now

    terms : terms_in t ≡ terms_in s
    terms = terms-same s t turned.numbers.hcap turned.numbers.base

    keys : KeysStand t act_now
    keys = keys-still s t (Full a k) now st (still-full a k now) turned.table turned.tracks turned.numbers

    has_then : (b j : ℕ) (c : Bool) → has (if c then queued_again (queue_at s b) slot (has (queue_at s b) slot) else queue_at s b) j ≡ has (queue_at s b) j
    has_then b j true = has-again (queue_at s b) slot j
    has_then b j false = refl

    once_then : (b : ℕ) (c : Bool) → EachOnce (if c then queued_again (queue_at s b) slot (has (queue_at s b) slot) else queue_at s b)
    once_then b true = again-once (queue_at s b) slot (has (queue_at s b) slot) (st.once b)
    once_then b false = st.once b

    due_same : (b j : ℕ) → due_at t b j ≡ due_at s b j
    due_same b j =
        ap (λ (x : Table). is_some (floor_in (limit_for x b j) (state_at t j).now.floor) && not (is_done (feed_at t b j))) turned.table
        ∙ ap (λ (x : Kept). is_some (floor_in (limit_for s.table b j) x.now.floor) && not (is_done (feed_at t b j))) (turned.tracks.states j)
        ∙ ap (λ (x : Feeding). is_some (floor_in (limit_for s.table b j) (state_at s j).now.floor) && not (is_done x)) (turned.feeds b j)
