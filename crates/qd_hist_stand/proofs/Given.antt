-- After an item was given the stripe stands for the moment with it.
use Rattle.std.proofs.Common.{◌≡◌, ℕ, ◌+◌, ◌-◌, ◌≤◌, Bool, true, false, ◌&&◌, not, if◌then◌else◌, nat_eq, Option, Some, None, is_some, List, ◌∷◌, length, refl, ap, sym, ◌∙◌, subst, arith, inl}
use Rattle.std.proofs.lemmas.Bool.{and_parts}
use Rattle.qd_scheme.specs.declared.key.Key.{Key}
use Rattle.qd_scheme.specs.Keys.{key_eq}
use Rattle.qd_gate.specs.declared.machine.Terms.{Terms}
use Rattle.qd_pend.specs.Slots.{has, EachOnce}
use Rattle.qd_pend.proofs.ListLaws.{same, equal}
use Rattle.qd_sub.specs.Acts.{Gave}
use Rattle.qd_sub.specs.Subscriptions.{limit_of}
use Rattle.qd_slots.specs.Holds.{is_subscribed}
use Rattle.qd_slots.specs.Views.{queued}
use Rattle.qd_table.specs.Tables.{Table, key_at, keys_at, hold_for, limit_for, order_of}
use Rattle.qd_table.specs.Steps.{is_cell}
use Rattle.qd_table.specs.Standing as table
use Rattle.qd_table.proofs.TableLaws.{true-false}
use Rattle.qd_table.proofs.StandOthers.{stands-gave}
use Rattle.qd_hist_key.specs.Kept.{Kept}
use Rattle.qd_hist_rules.specs.declared.floor.AgentFloor.{AgentFloor}
use Rattle.qd_hist_rules.specs.declared.item.HistItem.{HistItem}
use Rattle.qd_hist_rules.specs.Moments.{HistMoment, events, item_key}
use Rattle.qd_hist_rules.specs.Source.{Commit, last}
use Rattle.qd_hist_rules.specs.Agent.{agent_floor, meet}
use Rattle.qd_hist_rules.specs.Standing.{is_due, due_keys}
use Rattle.qd_hist_rules.specs.Lawful.{Lawful, LawfulItem}
use Rattle.qd_hist_rules.proofs.ActFacts.{limit_given}
use Rattle.qd_hist_rules.proofs.DueKeys.{due_same}
use Rattle.qd_hist_rules.proofs.DueOrder.{due_keys-same}
use Rattle.qd_hist_feed.specs.Feeding.{Feeding, nothing, is_done, after_next}
use Rattle.qd_hist_feed.specs.Stands as feed
use Rattle.qd_hist_feed.proofs.Sweeping.{quiet_stands}
use Rattle.qd_hist_feed.proofs.Due.{due_is}
use Rattle.qd_hist_stand.specs.Stripes.{Shown, StandsAt, IsFed, AllOf, no_keeps, state_at, feed_at, queue_at, owed_at, owed_of, floor_in, floor_at, due_at, terms_in}
use Rattle.qd_hist_stand.specs.Steps.{IsGiven}
use Rattle.qd_table.proofs.SlotKeys.{same-slot}
use Rattle.qd_hist_stand.proofs.Queues.{has-queued, EachOnce-queued}
use Rattle.qd_hist_stand.proofs.Elsewhere.{made-none}
use Rattle.qd_hist_stand.proofs.Base.{keys-apart, feed-of, floor-is, order-about, terms-same}
use Rattle.qd_hist_stand.proofs.Sums.{sum-agree, sum-with}
use Rattle.qd_hist_stand.proofs.Still.{KeysStand, still-gave, last-still, keys-still}
use Rattle.qd_hist_stand.proofs.Gifts.{left-own, left-fewer}
use Rattle.qd_hist_stand.proofs.Give.{floor-subscribed, first-has, gift-queue, given-at, given-lawful}

-- all that holds of a gift
record Gift (s t : Shown) (a slot : ℕ) (i : HistItem) (now : HistMoment) (k : Key) (f : AgentFloor) (left : Feeding) : Type 0 where
  own : key_at s.table slot ≡ Some k
  floor : floor_at s a slot ≡ Some f
  law : LawfulItem (terms_in s) a k i now
  fed : feed.StandsFor (terms_in s) a k left (Gave a k i ∷ now)
  fewer : length left.owed ≤ length (feed_at s a slot).owed
  labels : (j : Key) → AllOf j (events (feed_at s a slot).owed) → AllOf j (events left.owed)
  subscribed : is_subscribed (hold_for s.table a slot) ≡ true
  feeds : (b j : ℕ) → feed_at t b j ≡ (if is_cell b j a slot then left else feed_at s b j)
  queues : (b : ℕ) → queue_at t b ≡ (if nat_eq b a then queued (queue_at s a) slot (not (is_done left)) else queue_at s b)
  owed : (b : ℕ) → owed_at t b ≡ (if nat_eq b a then (owed_at s a + length left.owed) - length (feed_at s a slot).owed else owed_at s b)

abbrev left_by : (s t : Shown) (a slot : ℕ) (i : HistItem) → IsGiven s a slot i t → Feeding
left_by s t a slot i g = after_next (feed_at s a slot) (state_at s slot) g.floor

gift-of : (s t : Shown) (a slot : ℕ) (i : HistItem) (now : HistMoment) → StandsAt s now → (g : IsGiven s a slot i t) → Gift s t a slot i now (item_key i) g.floor (left_by s t a slot i g)
gift-of s t a slot i now st g =
    let lawful = given-lawful s t a slot i now st g in
    record {
      own = given-at s t a slot i now st g;
      floor = g.floor_is;
      law = lawful.0;
      fed = lawful.1;
      fewer = left-fewer (feed_at s a slot) (state_at s slot) g.floor;
      labels = λ j h. left-own (feed_at s a slot) j (state_at s slot) g.floor h;
      subscribed = floor-subscribed s a slot g.floor g.floor_is;
      feeds = g.part.feeds;
      queues = λ b. g.part.queues b ∙ ap (λ (q : List ℕ). if nat_eq b a then q else queue_at s b) (gift-queue (queue_at s a) slot (is_done (left_by s t a slot i g)) (first-has (queue_at s a) slot g.first));
      owed = g.part.owed;
    }

-- the feeds
feed-then : (s t : Shown) (a slot : ℕ) (i : HistItem) (now : HistMoment) (k : Key) (f : AgentFloor) (left : Feeding) → StandsAt s now → Gift s t a slot i now k f left → (b j : ℕ) (c : Bool) → is_cell b j a slot ≡ c → feed_at t b j ≡ (if c then left else feed_at s b j)
feed-then s t a slot i now k f left st g b j c e = g.feeds b j ∙ ap (λ (x : Bool). if x then left else feed_at s b j) e

fed-other : (s : Shown) (a slot : ℕ) (i : HistItem) (now : HistMoment) (k : Key) → StandsAt s now → key_at s.table slot ≡ Some k → (b j : ℕ) → is_cell b j a slot ≡ false → (o : Option Key) → key_at s.table j ≡ o → IsFed (terms_in s) b o (feed_at s b j) (Gave a k i ∷ now)
fed-other s a slot i now k st own b j e None n = subst (λ (o : Option Key). IsFed (terms_in s) b o (feed_at s b j) now) n (st.feeds b j)
fed-other s a slot i now k st own b j e (Some y) n =
    quiet_stands (terms_in s) b y (feed_at s b j) (Gave a k i) now
    (record {
      no_gift = ap (λ (c : Bool). nat_eq b a && c) (sym (same-slot (key_at s.table) (keys-apart s now st) j y n slot k own)) ∙ e;
      no_commit = made-none s.base y (Gave a k i) now refl;
      same_limit = limit_given b y a k i now;
      no_sub = refl;
    })
    (feed-of s now st b j y n)

fed-then : (s t : Shown) (a slot : ℕ) (i : HistItem) (now : HistMoment) (k : Key) (f : AgentFloor) (left : Feeding) → StandsAt s now → Gift s t a slot i now k f left → (b j : ℕ) → IsFed (terms_in s) b (key_at s.table j) (feed_at t b j) (Gave a k i ∷ now)
fed-then s t a slot i now k f left st g b j = go (is_cell b j a slot) refl
  where
    go : (c : Bool) → is_cell b j a slot ≡ c → IsFed (terms_in s) b (key_at s.table j) (feed_at t b j) (Gave a k i ∷ now)
    go true e =
        let p = and_parts (nat_eq b a) (nat_eq j slot) e in
        subst (λ (x : Feeding). IsFed (terms_in s) b (key_at s.table j) x (Gave a k i ∷ now)) (sym (feed-then s t a slot i now k f left st g b j true e))
        (subst (λ (x : ℕ). IsFed (terms_in s) x (key_at s.table j) left (Gave a k i ∷ now)) (sym (equal b a p.0))
        (subst (λ (o : Option Key). IsFed (terms_in s) a o left (Gave a k i ∷ now)) (sym (ap (λ (x : ℕ). key_at s.table x) (equal j slot p.1) ∙ g.own)) g.fed))
    go false e =
        subst (λ (x : Feeding). IsFed (terms_in s) b (key_at s.table j) x (Gave a k i ∷ now)) (sym (feed-then s t a slot i now k f left st g b j false e))
        (fed-other s a slot i now k st g.own b j e (key_at s.table j) refl)

labels-then : (s t : Shown) (a slot : ℕ) (i : HistItem) (now : HistMoment) (k : Key) (f : AgentFloor) (left : Feeding) → StandsAt s now → Gift s t a slot i now k f left → (b j : ℕ) (y : Key) → key_at s.table j ≡ Some y → AllOf y (events (feed_at t b j).owed)
labels-then s t a slot i now k f left st g b j y own = go (is_cell b j a slot) refl
  where
    go : (c : Bool) → is_cell b j a slot ≡ c → AllOf y (events (feed_at t b j).owed)
    go true e =
        let p = and_parts (nat_eq b a) (nat_eq j slot) e in
        subst (λ (x : Feeding). AllOf y (events x.owed)) (sym (feed-then s t a slot i now k f left st g b j true e))
        (g.labels y (st.owed_labels a slot y (ap (λ (x : ℕ). key_at s.table x) (sym (equal j slot p.1)) ∙ own)))
    go false e = subst (λ (x : Feeding). AllOf y (events x.owed)) (sym (feed-then s t a slot i now k f left st g b j false e)) (st.owed_labels b j y own)

unfed-then : (s t : Shown) (a slot : ℕ) (i : HistItem) (now : HistMoment) (k : Key) (f : AgentFloor) (left : Feeding) → StandsAt s now → Gift s t a slot i now k f left → (b j : ℕ) → is_subscribed (hold_for s.table b j) ≡ false → feed_at t b j ≡ nothing
unfed-then s t a slot i now k f left st g b j h = go (is_cell b j a slot) refl
  where
    go : (c : Bool) → is_cell b j a slot ≡ c → feed_at t b j ≡ nothing
    go true e =
        let p = and_parts (nat_eq b a) (nat_eq j slot) e in
        absurd (true-false (sym g.subscribed ∙ ap (λ (x : ℕ). is_subscribed (hold_for s.table x slot)) (sym (equal b a p.0)) ∙ ap (λ (x : ℕ). is_subscribed (hold_for s.table b x)) (sym (equal j slot p.1)) ∙ h))
    go false e = feed-then s t a slot i now k f left st g b j false e ∙ st.unfed b j h

-- what is due
due-then : (s t : Shown) (a slot : ℕ) (i : HistItem) (now : HistMoment) (k : Key) (f : AgentFloor) (left : Feeding) → StandsAt s now → Gift s t a slot i now k f left → (b j : ℕ)
    → (is_some (floor_at s b j) && not (is_done (feed_at t b j))) ≡ (if is_cell b j a slot then not (is_done left) else due_at s b j)
due-then s t a slot i now k f left st g b j = go (is_cell b j a slot) refl
  where
    go : (c : Bool) → is_cell b j a slot ≡ c → (is_some (floor_at s b j) && not (is_done (feed_at t b j))) ≡ (if c then not (is_done left) else due_at s b j)
    go true e =
        let p = and_parts (nat_eq b a) (nat_eq j slot) e in
        ap (λ (x : Feeding). is_some (floor_at s b j) && not (is_done x)) (feed-then s t a slot i now k f left st g b j true e)
        ∙ ap (λ (o : Option AgentFloor). is_some o && not (is_done left)) (ap (λ (x : ℕ). floor_at s x j) (equal b a p.0) ∙ ap (λ (x : ℕ). floor_at s a x) (equal j slot p.1) ∙ g.floor)
    go false e = ap (λ (x : Feeding). is_some (floor_at s b j) && not (is_done x)) (feed-then s t a slot i now k f left st g b j false e)

has-then : (s t : Shown) (a slot : ℕ) (i : HistItem) (now : HistMoment) (k : Key) (f : AgentFloor) (left : Feeding) → StandsAt s now → Gift s t a slot i now k f left → (b j : ℕ)
    → has (queue_at t b) j ≡ (if is_cell b j a slot then not (is_done left) else due_at s b j)
has-then s t a slot i now k f left st g b j = ap (λ (q : List ℕ). has q j) (g.queues b) ∙ go (nat_eq b a) refl
  where
    go : (c : Bool) → nat_eq b a ≡ c → has (if c then queued (queue_at s a) slot (not (is_done left)) else queue_at s b) j ≡ (if c && nat_eq j slot then not (is_done left) else due_at s b j)
    go true e =
        has-queued (queue_at s a) slot (not (is_done left)) j
        ∙ ap (λ (x : Bool). if nat_eq j slot then not (is_done left) else x) (st.due a j ∙ ap (λ (x : ℕ). due_at s x j) (sym (equal b a e)))
    go false e = st.due b j

once-then : (s t : Shown) (a slot : ℕ) (i : HistItem) (now : HistMoment) (k : Key) (f : AgentFloor) (left : Feeding) → StandsAt s now → Gift s t a slot i now k f left → (b : ℕ) → EachOnce (queue_at t b)
once-then s t a slot i now k f left st g b = subst (λ (q : List ℕ). EachOnce q) (sym (g.queues b)) (go (nat_eq b a))
  where
    go : (c : Bool) → EachOnce (if c then queued (queue_at s a) slot (not (is_done left)) else queue_at s b)
    go true = EachOnce-queued (queue_at s a) slot (not (is_done left)) (st.once a)
    go false = st.once b

-- the floor of the pair stays
floor-then : (s t : Shown) (a slot : ℕ) (i : HistItem) (now : HistMoment) (k : Key) (f : AgentFloor) (left : Feeding) → StandsAt s now → Gift s t a slot i now k f left → agent_floor s.base a k (Gave a k i ∷ now) ≡ Some f
floor-then s t a slot i now k f left st g =
    ap (λ (o : Option ℕ). meet o (last s.base k (Gave a k i ∷ now))) (limit_given a k a k i now)
    ∙ ap (λ (o : Option Commit). meet (limit_of a k now) o) (last-still s.base k (Gave a k i) now (still-gave a k i now))
    ∙ sym (floor-is s now st a slot k g.own) ∙ g.floor

order-then : (s t : Shown) (a slot : ℕ) (i : HistItem) (now : HistMoment) (k : Key) (f : AgentFloor) (left : Feeding) → StandsAt s now → Gift s t a slot i now k f left → (b : ℕ) → due_keys (terms_in s) b (Gave a k i ∷ now) ≡ keys_at s.table (queue_at t b)
order-then s t a slot i now k f left st g b = go (nat_eq b a) refl ∙ sym (ap (λ (q : List ℕ). keys_at s.table q) (g.queues b))
  where
    waits : is_due (terms_in s) a k (Gave a k i ∷ now) ≡ not (is_done left)
    waits = due_is (terms_in s) a k left f (Gave a k i ∷ now) (g.law, st.lawful) (floor-then s t a slot i now k f left st g) g.fed

    go : (c : Bool) → nat_eq b a ≡ c → due_keys (terms_in s) b (Gave a k i ∷ now) ≡ keys_at s.table (if c then queued (queue_at s a) slot (not (is_done left)) else queue_at s b)
    go true e =
        ap (λ (x : ℕ). due_keys (terms_in s) x (Gave a k i ∷ now)) (equal b a e)
        ∙ order-about s now st s.table a slot k (Gave a k i) (not (is_done left)) (inl (st.table.sound.found slot k g.own)) refl (λ y. refl) (λ j d. refl) (λ w. g.own) waits
    go false e =
        due_keys-same (terms_in s) b (Gave a k i) now (λ y. refl)
        (λ y. due_same (terms_in s) b (Gave a k i) now y (record { no_put = refl; no_gift = ap (λ (c : Bool). c && key_eq y k) e; no_sub = refl }) (limit_given b y a k i now) ((still-gave a k i now).wants y))
        ∙ st.order b

-- how much is owed
owed-then : (s t : Shown) (a slot : ℕ) (i : HistItem) (now : HistMoment) (k : Key) (f : AgentFloor) (left : Feeding) → StandsAt s now → Gift s t a slot i now k f left → (b : ℕ) → owed_at t b ≡ owed_of t b (order_of s.table b)
owed-then s t a slot i now k f left st g b = g.owed b ∙ go (nat_eq b a) refl
  where
    apart : (j : ℕ) → nat_eq b a ≡ false → length (feed_at t b j).owed ≡ length (feed_at s b j).owed
    apart j e = ap (λ (x : Feeding). length x.owed) (feed-then s t a slot i now k f left st g b j false (ap (λ (c : Bool). c && nat_eq j slot) e))

    other : (j : ℕ) → nat_eq j slot ≡ false → length (feed_at t a j).owed ≡ length (feed_at s a j).owed
    other j e = ap (λ (x : Feeding). length x.owed) (feed-then s t a slot i now k f left st g a j false (ap (λ (c : Bool). c && nat_eq j slot) (same a) ∙ e))

    here : length (feed_at t a slot).owed ≡ length left.owed
    here = ap (λ (x : Feeding). length x.owed) (feed-then s t a slot i now k f left st g a slot true (ap (λ (c : Bool). c && nat_eq slot slot) (same a) ∙ same slot))

    go : (c : Bool) → nat_eq b a ≡ c → (if c then (owed_at s a + length left.owed) - length (feed_at s a slot).owed else owed_at s b) ≡ owed_of t b (order_of s.table b)
    go true e =
        let sums : owed_of t a (order_of s.table a) + length (feed_at s a slot).owed ≡ owed_of s a (order_of s.table a) + length (feed_at t a slot).owed =
        sum-with (λ (j : ℕ). length (feed_at s a j).owed) (λ (j : ℕ). length (feed_at t a j).owed) slot (order_of s.table a) (st.table.sound.ordered_once a) (st.table.sound.ordered a slot ∙ g.subscribed) other in
        let before : owed_at s a ≡ owed_of s a (order_of s.table a) = st.owed a in
        let now_owed : (owed_at s a + length left.owed) - length (feed_at s a slot).owed ≡ owed_of t a (order_of s.table a) = omega (arith, sums, before, here) in
        now_owed ∙ ap (λ (x : ℕ). owed_of t x (order_of s.table x)) (sym (equal b a e))
    go false e = st.owed b ∙ sym (sum-agree (λ (j : ℕ). length (feed_at s b j).owed) (λ (j : ℕ). length (feed_at t b j).owed) (order_of s.table b) (λ j h. apart j e))

within-then : (s t : Shown) (a slot : ℕ) (i : HistItem) (now : HistMoment) (k : Key) (f : AgentFloor) (left : Feeding) → StandsAt s now → Gift s t a slot i now k f left → (b : ℕ) → owed_at t b ≤ s.hcap
within-then s t a slot i now k f left st g b = subst (λ (n : ℕ). n ≤ s.hcap) (sym (g.owed b)) (go (nat_eq b a))
  where
    go : (c : Bool) → (if c then (owed_at s a + length left.owed) - length (feed_at s a slot).owed else owed_at s b) ≤ s.hcap
    go true =
        let most : owed_at s a ≤ s.hcap = st.within a in
        let fewer : length left.owed ≤ length (feed_at s a slot).owed = g.fewer in
        omega (arith, most, fewer)
    go false = st.within b

-- the stripe stands for the moment with the item
pub stands-given : (s t : Shown) (a slot : ℕ) (i : HistItem) (now : HistMoment) → StandsAt s now → IsGiven s a slot i t → StandsAt t (Gave a (item_key i) i ∷ now)
stands-given s t a slot i now st given = record {
  table = subst (λ (x : Table). table.StandsFor x no_keeps act_now) (sym given.table) (stands-gave s.table no_keeps a k i now st.table);
  lawful = subst (λ (x : Terms). Lawful x act_now) (sym terms) (g.law, st.lawful);
  count_is = keys.count_is;
  stock_is = keys.stock_is;
  states = keys.states;
  numbers = keys.numbers;
  feeds = λ b j. subst (λ (x : Terms). IsFed x b (key_at t.table j) (feed_at t b j) act_now) (sym terms)
      (subst (λ (x : Table). IsFed (terms_in s) b (key_at x j) (feed_at t b j) act_now) (sym given.table) (fed-then s t a slot i now k f left st g b j));
  labels = keys.labels;
  owed_labels = λ b j y own. labels-then s t a slot i now k f left st g b j y (sym (ap (λ (x : Table). key_at x j) given.table) ∙ own);
  unfed = λ b j h. unfed-then s t a slot i now k f left st g b j (sym (ap (λ (x : Table). is_subscribed (hold_for x b j)) given.table) ∙ h);
  due = λ b j. has-then s t a slot i now k f left st g b j ∙ sym (due-then s t a slot i now k f left st g b j)
      ∙ sym (ap (λ (x : Table). is_some (floor_in (limit_for x b j) (state_at t j).now.floor) && not (is_done (feed_at t b j))) given.table
      ∙ ap (λ (x : Kept). is_some (floor_in (limit_for s.table b j) x.now.floor) && not (is_done (feed_at t b j))) (given.tracks.states j));
  once = once-then s t a slot i now k f left st g;
  order = λ b. ap (λ (x : Terms). due_keys x b act_now) terms ∙ order-then s t a slot i now k f left st g b ∙ sym (ap (λ (x : Table). keys_at x (queue_at t b)) given.table);
  owed = λ b. owed-then s t a slot i now k f left st g b ∙ sym (ap (λ (x : Table). owed_of t b (order_of x b)) given.table);
  within = λ b. subst (λ (n : ℕ). owed_at t b ≤ n) (sym given.numbers.hcap) (within-then s t a slot i now k f left st g b);
}
  where
    k : Key
    k = item_key i

    f : AgentFloor
    f = given.floor

    left : Feeding
    left = left_by s t a slot i given

    act_now : HistMoment
    act_now = Gave a k i ∷ now

    g : Gift s t a slot i now k f left
    g = gift-of s t a slot i now st given

    terms : terms_in t ≡ terms_in s
    terms = terms-same s t given.numbers.hcap given.numbers.base

    keys : KeysStand t act_now
    keys = keys-still s t (Gave a k i) now st (still-gave a k i now) given.table given.tracks given.numbers
