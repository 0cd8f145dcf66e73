-- Acts that change nothing but what watchers know: a stripe stands after a Close, and after a watcher was told.
use Rattle.std.proofs.Common.{◌≡◌, ◌⊎◌, inl, inr, ℕ, ◌≤◌, Bool, true, false, ◌&&◌, not, if◌then◌else◌, nat_eq, Option, Some, None, List, [], ◌∷◌, length, map, take, refl, ap, sym, ◌∙◌, arith, subst}
use Rattle.qd_scheme.specs.declared.key.Key.{Key}
use Rattle.qd_scheme.specs.declared.key.Event.{Event}
use Rattle.qd_gate.specs.declared.machine.Terms.{Terms}
use Rattle.qd_pend.specs.Slots.{has, EachOnce}
use Rattle.qd_pend.proofs.ListLaws.{equal}
use Rattle.qd_sub.specs.declared.sub.Want.{Want}
use Rattle.qd_sub.specs.Acts.{Closed, Told}
use Rattle.qd_sub.specs.Subscriptions.{limit_of}
use Rattle.qd_sub.specs.Watching.{watched}
use Rattle.qd_sub.specs.Logs.{after}
use Rattle.qd_sub.proofs.SubscriptionLaws.{wanted-none}
use Rattle.qd_slots.specs.declared.holds.Hold.TheVariants.{Free}
use Rattle.qd_slots.specs.Holds.{is_subscribed, is_held}
use Rattle.qd_slots.proofs.NameLaws.{below-or-not}
use Rattle.qd_table.specs.Tables.{Table, key_at, keys_at, hold_for, limit_for, order_of, queue_of, is_used}
use Rattle.qd_table.specs.Steps.{IsTold, TellsAll}
use Rattle.qd_table.specs.Standing as table
use Rattle.qd_table.proofs.TableLaws.{true-false, some-none, none-from, or-left, below-any, subscribed-held, limit_for-some}
use Rattle.qd_table.proofs.KeyLists.{keys-agree}
use Rattle.qd_table.proofs.StandLaws.{subscribed-table, watched-table}
use Rattle.qd_table.proofs.StandOthers.{stands-closed}
use Rattle.qd_table.proofs.StandChains.{stands-watched}
use Rattle.qd_hist_key.specs.Kept.{Kept}
use Rattle.qd_hist_key.specs.Keeping as keeping
use Rattle.qd_hist_rules.specs.Moments.{HistAct, HistMoment, events, gives, subscribes, fills}
use Rattle.qd_hist_rules.specs.Source.{source, Commit, last, count, stock}
use Rattle.qd_hist_rules.specs.Standing.{due_keys}
use Rattle.qd_hist_rules.specs.Lawful.{Lawful}
use Rattle.qd_hist_rules.proofs.DueKeys.{due_same}
use Rattle.qd_hist_rules.proofs.DueOrder.{due_keys-same}
use Rattle.qd_hist_feed.specs.Feeding.{Feeding, nothing}
use Rattle.qd_hist_feed.proofs.Sweeping.{quiet_stands}
use Rattle.qd_hist_stand.specs.Stripes.{Shown, StandsAt, AllOf, IsFed, no_keeps, source_of, state_at, number_at, feed_at, queue_at, owed_at, owed_of, due_at, terms_in}
use Rattle.qd_hist_stand.specs.Steps.{IsTelling}
use Rattle.qd_hist_stand.specs.Laws.{ClosedStands, TellingStands}
use Rattle.qd_hist_stand.proofs.Elsewhere.{and-false, made-none, source-unwanted}
use Rattle.qd_hist_stand.proofs.Base.{terms-same, floor-alike, due-alike, due-unlimited}
use Rattle.qd_hist_stand.proofs.Still.{IsStill, still-closed, still-told, source-still, last-still, count-still, stock-still}
use Rattle.qd_hist_stand.proofs.Sums.{owed_in, sum-agree}

-- all that a stripe stands for beside its table
pub record Rest (s : Shown) (now : HistMoment) : Type 0 where
  pub lawful : Lawful (terms_in s) now
  pub count_is : s.count ≡ count s.base now
  pub stock_is : s.stock ≡ stock s.base now
  pub states : (slot : ℕ) → keeping.StandsFor (state_at s slot) (source_of (key_at s.table slot) now)
  pub numbers : (slot : ℕ) (k : Key) (c : Commit) → key_at s.table slot ≡ Some k → last s.base k now ≡ Some c → number_at s slot ≡ c.number
  pub feeds : (a slot : ℕ) → IsFed (terms_in s) a (key_at s.table slot) (feed_at s a slot) now
  pub labels : (k : Key) → AllOf k (source k now)
  pub owed_labels : (a slot : ℕ) (k : Key) → key_at s.table slot ≡ Some k → AllOf k (events (feed_at s a slot).owed)
  pub unfed : (a slot : ℕ) → is_subscribed (hold_for s.table a slot) ≡ false → feed_at s a slot ≡ nothing
  pub due : (a slot : ℕ) → has (queue_at s a) slot ≡ due_at s a slot
  pub once : (a : ℕ) → EachOnce (queue_at s a)
  pub order : (a : ℕ) → due_keys (terms_in s) a now ≡ keys_at s.table (queue_at s a)
  pub owed : (a : ℕ) → owed_at s a ≡ owed_of s a (order_of s.table a)
  pub within : (a : ℕ) → owed_at s a ≤ s.hcap

with-table : (s : Shown) (now : HistMoment) → table.StandsFor s.table no_keeps now → Rest s now → StandsAt s now
with-table s now tab rest = record {
  table = tab;
  lawful = rest.lawful;
  count_is = rest.count_is;
  stock_is = rest.stock_is;
  states = rest.states;
  numbers = rest.numbers;
  feeds = rest.feeds;
  labels = rest.labels;
  owed_labels = rest.owed_labels;
  unfed = rest.unfed;
  due = rest.due;
  once = rest.once;
  order = rest.order;
  owed = rest.owed;
  within = rest.within;
}

rest-of : (s : Shown) (now : HistMoment) → StandsAt s now → Rest s now
rest-of s now st = record {
  lawful = st.lawful;
  count_is = st.count_is;
  stock_is = st.stock_is;
  states = st.states;
  numbers = st.numbers;
  feeds = st.feeds;
  labels = st.labels;
  owed_labels = st.owed_labels;
  unfed = st.unfed;
  due = st.due;
  once = st.once;
  order = st.order;
  owed = st.owed;
  within = st.within;
}

-- the act puts and gives nothing, subscribes nobody, and marks nothing
record IsIdle (act : HistAct) (now : HistMoment) : Type 0 where
  still : IsStill act now
  no_gift : (a : ℕ) (k : Key) → gives a k act ≡ false
  no_sub : (a : ℕ) (k : Key) → subscribes a k act ≡ false
  no_mark : (a : ℕ) (k : Key) → fills a k act ≡ false
  limits : (a : ℕ) (k : Key) → limit_of a k (act ∷ now) ≡ limit_of a k now
  lawful : (terms : Terms) → Lawful terms now → Lawful terms (act ∷ now)

idle-closed : (a : ℕ) (now : HistMoment) → IsIdle (Closed a) now
unfolding limit_of
idle-closed a now = record {
  still = still-closed a now;
  no_gift = λ b k. refl;
  no_sub = λ b k. refl;
  no_mark = λ b k. refl;
  limits = λ b k. refl;
  lawful = λ terms w. w;
}

idle-told : (w : ℕ) (j : Key) (total : Option ℕ) (now : HistMoment) → IsIdle (Told w j total) now
unfolding limit_of
idle-told w j total now = record {
  still = still-told w j total now;
  no_gift = λ b k. refl;
  no_sub = λ b k. refl;
  no_mark = λ b k. refl;
  limits = λ b k. refl;
  lawful = λ terms x. x;
}

-- such an act leaves all
rest-idle : (s : Shown) (act : HistAct) (now : HistMoment) → IsIdle act now → Rest s now → Rest s (act ∷ now)
rest-idle s act now idle rest = record {
  lawful = idle.lawful (terms_in s) rest.lawful;
  count_is = rest.count_is ∙ sym (count-still s.base act now idle.still);
  stock_is = rest.stock_is ∙ sym (stock-still s.base act now idle.still);
  states = λ slot. subst (λ (es : List Event). keeping.StandsFor (state_at s slot) es) (sym (source_then (key_at s.table slot))) (rest.states slot);
  numbers = λ slot k c e l. rest.numbers slot k c e (sym (last-still s.base k act now idle.still) ∙ l);
  feeds = λ a slot. fed a (key_at s.table slot) (feed_at s a slot) (rest.feeds a slot);
  labels = λ k. subst (λ (es : List Event). AllOf k es) (sym (source-still k act now idle.still)) (rest.labels k);
  owed_labels = rest.owed_labels;
  unfed = rest.unfed;
  due = rest.due;
  once = rest.once;
  order = λ a. due_keys-same (terms_in s) a act now (idle.no_mark a)
      (λ y. due_same (terms_in s) a act now y (record { no_put = idle.still.no_put y; no_gift = idle.no_gift a y; no_sub = idle.no_sub a y }) (idle.limits a y) (idle.still.wants y)) ∙ rest.order a;
  owed = rest.owed;
  within = rest.within;
}
  where
    source_then : (o : Option Key) → source_of o (act ∷ now) ≡ source_of o now
    source_then None = refl
    source_then (Some k) = source-still k act now idle.still

    fed : (a : ℕ) (o : Option Key) (f : Feeding) → IsFed (terms_in s) a o f now → IsFed (terms_in s) a o f (act ∷ now)
    fed a None f x = x
    fed a (Some k) f x =
        quiet_stands (terms_in s) a k f act now
        (record { no_gift = idle.no_gift a k; no_commit = made-none s.base k act now (idle.still.no_put k); same_limit = idle.limits a k; no_sub = idle.no_sub a k }) x

-- a Close
pub closed-stands : ClosedStands
closed-stands s a now st = with-table s (Closed a ∷ now) (stands-closed s.table no_keeps a now st.table) (rest-idle s (Closed a) now (idle-closed a now) (rest-of s now st))

-- slots lost their keys to which nobody was subscribed; what agents have is the same
record IsFreed (old new : Table) : Type 0 where
  names : (i : ℕ) → (key_at new i ≡ key_at old i) ⊎ ((key_at new i ≡ None) × ((a : ℕ) → is_subscribed (hold_for old a i) ≡ false))
  holds : (b i : ℕ) → hold_for new b i ≡ hold_for old b i
  limits : (b i : ℕ) → limit_for new b i ≡ limit_for old b i
  orders : (b : ℕ) → order_of new b ≡ order_of old b

used-subscribed : (t : Table) (a slot : ℕ) → ((b i : ℕ) → 128 ≤ b → hold_for t b i ≡ Free) → is_subscribed (hold_for t a slot) ≡ true → is_used t slot ≡ true
unfolding is_used
used-subscribed t a slot agents h = elim (below-or-not a 128) [
  | inl l ↦ or-left _ _ (below-any (λ b. is_held (hold_for t b slot)) 128 a l (subscribed-held (hold_for t a slot) h))
  | inr m ↦ absurd (true-false (sym h ∙ ap is_subscribed (agents a slot m)))
]

freed-told : (old new : Table) (w slot : ℕ) → ((b i : ℕ) → 128 ≤ b → hold_for old b i ≡ Free) → IsTold old w slot new → IsFreed old new
freed-told old new w slot agents told = record { names = λ i. go i (nat_eq i slot) refl (is_used new slot) refl; holds = told.holds; limits = told.limits; orders = told.orders }
  where
    nobody : is_used new slot ≡ false → (i : ℕ) → nat_eq i slot ≡ true → (a : ℕ) → (d : Bool) → is_subscribed (hold_for old a i) ≡ d → is_subscribed (hold_for old a i) ≡ false
    nobody u i e a true f =
        absurd (true-false (sym (used-subscribed new a slot (λ b j m. told.holds b j ∙ agents b j m) (ap is_subscribed (told.holds a slot) ∙ ap (λ (j : ℕ). is_subscribed (hold_for old a j)) (sym (equal i slot e)) ∙ f)) ∙ u))
    nobody u i e a false f = f

    go : (i : ℕ) (b : Bool) → nat_eq i slot ≡ b → (c : Bool) → is_used new slot ≡ c → (key_at new i ≡ key_at old i) ⊎ ((key_at new i ≡ None) × ((a : ℕ) → is_subscribed (hold_for old a i) ≡ false))
    go i false e c u = inl (told.names i ∙ ap (λ (b : Bool). if b && not (is_used new slot) then None else key_at old i) e)
    go i true e true u =
        inl (told.names i ∙ ap (λ (c : Bool). if nat_eq i slot && not c then None else key_at old i) u ∙ ap (λ (b : Bool). if b then None else key_at old i) (and-false (nat_eq i slot)))
    go i true e false u = inr (
      told.names i ∙ ap (λ (c : Bool). if nat_eq i slot && not c then None else key_at old i) u ∙ ap (λ (b : Bool). if b && true then None else key_at old i) e,
      λ a. nobody u i e a (is_subscribed (hold_for old a i)) refl,
    )

freed-both : (old mid new : Table) → IsFreed old mid → IsFreed mid new → IsFreed old new
freed-both old mid new f g = record {
  names = λ i. elim (g.names i) [
    | inl e ↦ elim (f.names i) [ inl d ↦ inl (e ∙ d) | inr d ↦ inr (e ∙ d.0, d.1) ]
    | inr e ↦ inr (e.0, λ a. ap is_subscribed (sym (f.holds a i)) ∙ e.1 a)
  ];
  holds = λ b i. g.holds b i ∙ f.holds b i;
  limits = λ b i. g.limits b i ∙ f.limits b i;
  orders = λ b. g.orders b ∙ f.orders b;
}

tells-freed : (slots : List ℕ) (old new : Table) (w : ℕ) → ((b i : ℕ) → 128 ≤ b → hold_for old b i ≡ Free) → TellsAll old w slots new → IsFreed old new
unfolding TellsAll
tells-freed [] old new w agents e = subst (λ (x : Table). IsFreed old x) e (record { names = λ i. inl refl; holds = λ b i. refl; limits = λ b i. refl; orders = λ b. refl })
tells-freed (slot ∷ slots) old new w agents (mid, told, rest) =
    freed-both old mid new (freed-told old mid w slot agents told) (tells-freed slots mid new w (λ b j m. told.holds b j ∙ agents b j m) rest)

-- the same, said with slots that lost their keys
rest-freed : (s t : Shown) (w most : ℕ) (now : HistMoment) → StandsAt s now → IsTelling s w most t → IsFreed s.table t.table → Rest t now
rest-freed s t w most now st h freed = record {
  lawful = subst (λ (x : Terms). Lawful x now) (sym terms) st.lawful;
  count_is = h.numbers.count ∙ st.count_is ∙ ap (λ (b : ℕ). count b now) (sym h.numbers.base);
  stock_is = h.numbers.stock ∙ st.stock_is ∙ ap (λ (b : ℕ). stock b now) (sym h.numbers.base);
  states = λ slot. subst (λ (x : Kept). keeping.StandsFor x (source_of (key_at t.table slot) now)) (sym (h.tracks.states slot))
      (subst (λ (es : List Event). keeping.StandsFor (state_at s slot) es) (sym (source_then slot)) (st.states slot));
  numbers = λ slot k c e l. h.tracks.numbers slot ∙ st.numbers slot k c (named slot k e) (ap (λ (b : ℕ). last b k now) (sym h.numbers.base) ∙ l);
  feeds = λ a slot. subst (λ (x : Terms). IsFed x a (key_at t.table slot) (feed_at t a slot) now) (sym terms)
      (subst (λ (f : Feeding). IsFed (terms_in s) a (key_at t.table slot) f now) (sym (h.feeds a slot)) (fed a slot));
  labels = st.labels;
  owed_labels = λ a slot k e. subst (λ (f : Feeding). AllOf k (events f.owed)) (sym (h.feeds a slot)) (st.owed_labels a slot k (named slot k e));
  unfed = λ a slot e. h.feeds a slot ∙ st.unfed a slot (ap is_subscribed (sym (freed.holds a slot)) ∙ e);
  due = λ a slot. ap (λ (q : List ℕ). has q slot) (h.queues a) ∙ st.due a slot ∙ sym (due-alike s t a slot (floor-alike s t a slot (freed.limits a slot) (ap (λ (x : Kept). x.now.floor) (h.tracks.states slot))) (h.feeds a slot));
  once = λ a. subst EachOnce (sym (h.queues a)) (st.once a);
  order = λ a. ap (λ (x : Terms). due_keys x a now) terms ∙ st.order a ∙ sym (ap (keys_at t.table) (h.queues a) ∙ keys-agree t.table s.table (queue_at s a) (λ i d. queued_name a i d));
  owed = λ a. h.owed a ∙ st.owed a ∙ sym (ap (owed_of t a) (freed.orders a) ∙ sum-agree (owed_in s a) (owed_in t a) (order_of s.table a) (λ i e. ap (λ (f : Feeding). length f.owed) (h.feeds a i)));
  within = λ a. (let same : owed_at t a ≡ owed_at s a = h.owed a in let cap : t.hcap ≡ s.hcap = h.numbers.hcap in let low : owed_at s a ≤ s.hcap = st.within a in omega (arith, same, cap, low));
}
  where
    terms : terms_in t ≡ terms_in s
    terms = terms-same s t h.numbers.hcap h.numbers.base

    named : (slot : ℕ) (k : Key) → key_at t.table slot ≡ Some k → key_at s.table slot ≡ Some k
    named slot k e = elim (freed.names slot) [
      | inl o ↦ sym o ∙ e
      | inr o ↦ absurd (some-none k (sym e ∙ o.0))
    ]

    unwanted_source : (slot : ℕ) → ((a : ℕ) → is_subscribed (hold_for s.table a slot) ≡ false) → (o : Option Key) → key_at s.table slot ≡ o → source_of o now ≡ []
    unwanted_source slot none None e = refl
    unwanted_source slot none (Some k) e = source-unwanted k now (wanted-none k now (λ a. subscribed-table s.table no_keeps now st.table a k slot e ∙ none a))

    source_then : (slot : ℕ) → source_of (key_at t.table slot) now ≡ source_of (key_at s.table slot) now
    source_then slot = elim (freed.names slot) [
      | inl o ↦ ap (λ (x : Option Key). source_of x now) o
      | inr o ↦ ap (λ (x : Option Key). source_of x now) o.0 ∙ sym (unwanted_source slot o.1 (key_at s.table slot) refl)
    ]

    fed : (a slot : ℕ) → IsFed (terms_in s) a (key_at t.table slot) (feed_at s a slot) now
    fed a slot = elim (freed.names slot) [
      | inl o ↦ subst (λ (x : Option Key). IsFed (terms_in s) a x (feed_at s a slot) now) (sym o) (st.feeds a slot)
      | inr o ↦ subst (λ (x : Option Key). IsFed (terms_in s) a x (feed_at s a slot) now) (sym o.0) (st.unfed a slot (o.1 a))
    ]

    queued_name : (a i : ℕ) → has (queue_at s a) i ≡ true → key_at t.table i ≡ key_at s.table i
    queued_name a i d = elim (freed.names i) [
      | inl o ↦ o
      | inr o ↦ absurd (true-false (sym d ∙ st.due a i ∙ due-unlimited s a i (none-from (limit_for s.table a i) (limit_for-some s.table a i ∙ o.1 a))))
    ]

rest-told : (wants : List Want) (w : ℕ) (t : Shown) (now : HistMoment) → Rest t now → Rest t (after now (map (λ want. Told w want.key want.total) wants))
unfolding after
rest-told [] w t now rest = rest
rest-told (want ∷ wants) w t now rest = rest-told wants w t (Told w want.key want.total ∷ now) (rest-idle t (Told w want.key want.total) now (idle-told w want.key want.total now) rest)

-- a watcher is told what it is to be told
pub telling-stands : TellingStands
telling-stands s t w most now st h = (
  watched-table s.table no_keeps now st.table w most h.watcher,
  with-table t (after now (map (λ want. Told w want.key want.total) (watched w most now))) (stands-watched s.table t.table no_keeps now w most st.table h.watcher h.table)
      (rest-told (watched w most now) w t now (rest-freed s t w most now st h (tells-freed (take most (queue_of s.table w)) s.table t.table w st.table.sound.agents h.table))),
)
