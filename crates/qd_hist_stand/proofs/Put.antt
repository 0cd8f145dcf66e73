-- A stripe stands after an event was put.
use Rattle.std.proofs.Common.{◌≡◌, ◌⊎◌, inl, inr, ℕ, ◌+◌, ◌≤◌, Bool, true, false, ◌&&◌, nat_eq, List, ◌∷◌, reverse, refl, sym, ◌∙◌, ap, arith, subst, Option, Some, None}
use Rattle.std.specs.Prelude.{if◌then◌else◌, is_some}
use Rattle.std.proofs.lemmas.Bool.{cases_Bool}
use Rattle.qd_scheme.specs.declared.key.Key.{Key}
use Rattle.qd_scheme.specs.declared.key.Event.{Event}
use Rattle.qd_scheme.specs.Keys.{key_eq}
use Rattle.qd_scheme.proofs.KeyLaws.{key_eq-true}
use Rattle.qd_flags.specs.declared.commits.Ingest.{Ingest}
use Rattle.qd_gate.specs.declared.machine.Terms.{Terms}
use Rattle.qd_pend.proofs.ListLaws.{equal}
use Rattle.qd_sub.specs.Acts.{Came}
use Rattle.qd_sub.specs.Subscriptions.{limit_of, wanted}
use Rattle.qd_sub.proofs.SubscriptionLaws.{wanted-came, wanted-subscribed, kept-came_unwanted}
use Rattle.qd_slots.specs.Holds.{is_subscribed}
use Rattle.qd_table.specs.Tables.{Table, key_at, slot_for, hold_for}
use Rattle.qd_table.specs.Standing as table
use Rattle.qd_table.proofs.TableLaws.{true-false, some-same, key_at-found}
use Rattle.qd_table.proofs.StandLaws.{wanted-table, wanted-absent}
use Rattle.qd_table.proofs.StandOthers.{stands-came}
use Rattle.qd_hist_key.specs.Kept.{Kept}
use Rattle.qd_hist_key.specs.Keeping as keeping
use Rattle.qd_hist_rules.specs.Moments.{HistMoment, events}
use Rattle.qd_hist_rules.specs.Source.{source, Commit, count, last, stock}
use Rattle.qd_hist_rules.specs.Standing.{is_due, due_keys}
use Rattle.qd_hist_rules.specs.Lawful.{Lawful}
use Rattle.qd_hist_rules.proofs.ActFacts.{is_subscribed as subscribed-limit, limit_came}
use Rattle.qd_hist_rules.proofs.DueKeys.{due_about}
use Rattle.qd_hist_rules.proofs.DueOrder.{due_keys-same}
use Rattle.qd_hist_feed.specs.Feeding.{Feeding, nothing}
use Rattle.qd_hist_feed.proofs.Sweeping.{quiet_stands}
use Rattle.qd_hist_stand.specs.Stripes.{Shown, StandsAt, IsFed, AllOf, source_of, state_at, number_at, feed_at, owed_at, terms_in, size_of, no_keeps}
use Rattle.qd_hist_stand.specs.Steps.{makes_commit, IsPut}
use Rattle.qd_table.proofs.SlotKeys.{same-slot}
use Rattle.qd_hist_stand.proofs.Elsewhere.{last-stays, last-elsewhere, source-elsewhere, quiet-elsewhere}
use Rattle.qd_hist_stand.proofs.Base.{keys-apart, state-of, unlimited, terms-same}
use Rattle.qd_hist_stand.proofs.PutCommits.{count_unwanted, made_unwanted, number_then}
use Rattle.qd_hist_stand.proofs.PutOwed.{stock_moves}
use Rattle.qd_hist_rules.proofs.Stock.{stock-unwanted}
use Rattle.qd_hist_stand.proofs.Moves.{due-moved, once-moved, order-moved}
use Rattle.qd_hist_stand.proofs.PutSlot.{Putting, putting, feed_there, feed_unsub, feed_own, due_own, moved_own, owed_own, labels_own}

no_one : (a : ℕ) (k : Key) (m : HistMoment) → wanted k m ≡ false → limit_of a k m ≡ None
no_one a k m w = go (limit_of a k m) refl
  where
    go : (o : Option ℕ) → limit_of a k m ≡ o → limit_of a k m ≡ None
    go None e = e
    go (Some l) e = absurd (true-false (sym (wanted-subscribed a k m (subscribed-limit a k m ∙ ap is_some e)) ∙ w))

-- an event of an unwanted key leaves each key's events
source_unwanted : (j k : Key) (e : Event) (m : HistMoment) → wanted k m ≡ false → source j (Came k e ∷ m) ≡ source j m
source_unwanted j k e m w = go (cases_Bool (key_eq j k))
  where
    go : (key_eq j k ≡ true) ⊎ (key_eq j k ≡ false) → source j (Came k e ∷ m) ≡ source j m
    go (inl h) = subst (λ (y : Key). source y (Came k e ∷ m) ≡ source y m) (sym (key_eq-true j k h)) (ap (λ (es : List Event). reverse es) (kept-came_unwanted k k e m w))
    go (inr h) = source-elsewhere j (Came k e) m h

-- an event of an unwanted key
put_unwanted : (s : Shown) (e : Event) (now : HistMoment) → StandsAt s now → wanted e.key now ≡ false → StandsAt s (Came e.key e ∷ now)
put_unwanted s e now st w = record {
  table = stands-came s.table no_keeps e.key e now st.table;
  lawful = st.lawful;
  count_is = st.count_is ∙ sym (count_unwanted s.base e.key e now w);
  stock_is = st.stock_is ∙ sym (stock-unwanted s.base e.key e now w);
  states = λ slot. state_then slot (key_at s.table slot) (st.states slot);
  numbers = λ slot j c h l. st.numbers slot j c h (sym (lasts j) ∙ l);
  feeds = λ a slot. feed_then_at a (key_at s.table slot) (feed_at s a slot) (st.feeds a slot);
  labels = λ j. subst (λ (es : List Event). AllOf j es) (sym (source_unwanted j e.key e now w)) (st.labels j);
  owed_labels = st.owed_labels;
  unfed = st.unfed;
  due = st.due;
  once = st.once;
  order = λ a. due_keys-same (terms_in s) a (Came e.key e) now (λ y. refl) (dues a) ∙ st.order a;
  owed = st.owed;
  within = st.within;
}
  where
    state_then : (slot : ℕ) (o : Option Key) → keeping.StandsFor (state_at s slot) (source_of o now) → keeping.StandsFor (state_at s slot) (source_of o (Came e.key e ∷ now))
    state_then slot None h = h
    state_then slot (Some j) h = subst (λ (es : List Event). keeping.StandsFor (state_at s slot) es) (sym (source_unwanted j e.key e now w)) h

    lasts : (j : Key) → last s.base j (Came e.key e ∷ now) ≡ last s.base j now
    lasts j = last-stays s.base j (Came e.key e) now (made_unwanted s.base j e.key e now w) (wanted-came j e.key e now)

    feed_then_at : (a : ℕ) (o : Option Key) (f : Feeding) → IsFed (terms_in s) a o f now → IsFed (terms_in s) a o f (Came e.key e ∷ now)
    feed_then_at a None f h = h
    feed_then_at a (Some j) f h =
        quiet_stands (terms_in s) a j f (Came e.key e) now (record { no_gift = refl; no_commit = made_unwanted s.base j e.key e now w; same_limit = limit_came a j e.key e now; no_sub = refl }) h

    dues : (a : ℕ) (y : Key) → is_due (terms_in s) a y (Came e.key e ∷ now) ≡ is_due (terms_in s) a y now
    dues a y = go (cases_Bool (key_eq y e.key))
      where
        go : (key_eq y e.key ≡ true) ⊎ (key_eq y e.key ≡ false) → is_due (terms_in s) a y (Came e.key e ∷ now) ≡ is_due (terms_in s) a y now
        go (inl h) =
            let none : limit_of a y now ≡ None = ap (λ (z : Key). limit_of a z now) (key_eq-true y e.key h) ∙ no_one a e.key now w in
            unlimited (terms_in s) a y (Came e.key e ∷ now) (limit_came a y e.key e now ∙ none) ∙ sym (unlimited (terms_in s) a y now none)
        go (inr h) = due_about (terms_in s) a (Came e.key e) now y h

-- an event of a wanted key
put_wanted : {s t : Shown} {e : Event} {slot : ℕ} {answer : Ingest} {now : HistMoment} → Putting s t e slot answer now → StandsAt t (Came e.key e ∷ now)
put_wanted {s} {t} {e} {slot} {answer} {now} p = record {
  table = subst (λ (x : Table). table.StandsFor x no_keeps next) (sym p.put.table) (stands-came s.table no_keeps e.key e now p.st.table);
  lawful = subst (λ (x : Terms). Lawful x next) (sym terms) p.st.lawful;
  count_is = p.count_is ∙ ap (λ (b : ℕ). count b next) (sym p.put.base);
  stock_is = stock_then ∙ ap (λ (b : ℕ). stock b next) (sym p.put.base);
  states = λ i. subst (λ (x : Table). keeping.StandsFor (state_at t i) (source_of (key_at x i) next)) (sym p.put.table) (state_then i (nat_eq i slot) refl);
  numbers = λ i j c h l. number_own i j c (sym (ap (λ (x : Table). key_at x i) p.put.table) ∙ h) (ap (λ (b : ℕ). last b j next) (sym p.put.base) ∙ l) (nat_eq i slot) refl;
  feeds = λ a i. subst (λ (x : Terms). IsFed x a (key_at t.table i) (feed_at t a i) next) (sym terms) (subst (λ (x : Table). IsFed (terms_in s) a (key_at x i) (feed_at t a i) next) (sym p.put.table) (fed_then a i (nat_eq i slot) refl));
  labels = labels_then_of;
  owed_labels = λ a i j h. owed_labels_of a i j (sym (ap (λ (x : Table). key_at x i) p.put.table) ∙ h) (nat_eq i slot) refl;
  unfed = λ a i h. unfed_then a i (sym (ap (λ (x : Table). is_subscribed (hold_for x a i)) p.put.table) ∙ h) (nat_eq i slot) refl;
  due = due-moved s t slot now p.st (moved_own p);
  once = once-moved s t slot now p.st (moved_own p);
  order = λ a. ap (λ (x : Terms). due_keys x a next) terms
      ∙ order-moved s t slot now p.st (moved_own p) a e.key (Came e.key e) (inl p.put.found) refl (λ y. refl) (λ i h. ap (λ (x : Table). key_at x i) p.put.table) (λ h. ap (λ (x : Table). key_at x slot) p.put.table ∙ p.here) (due_own p a);
  owed = λ a. (owed_own p a).0;
  within = λ a. subst (λ (n : ℕ). owed_at t a ≤ n) (sym p.put.hcap) (owed_own p a).1;
}
  where
    next : HistMoment
    next = Came e.key e ∷ now

    terms : terms_in t ≡ terms_in s
    terms = terms-same s t p.put.hcap p.put.base

    apart : (i : ℕ) (j : Key) → nat_eq i slot ≡ false → key_at s.table i ≡ Some j → key_eq j e.key ≡ false
    apart i j h there = sym (same-slot (key_at s.table) (keys-apart s now p.st) i j there slot e.key p.here) ∙ h

    stock_then : t.stock ≡ stock s.base next
    stock_then =
        let law : stock s.base next + size_of (state_at s slot) ≡ stock s.base now + size_of (state_at t slot) =
        stock_moves s.base e.key e now (state_at s slot) (state_at t slot) (state-of s now p.st slot e.key p.here) p.state in
        let old : s.stock ≡ stock s.base now = p.st.stock_is in
        let new : t.stock + size_of (state_at s slot) ≡ s.stock + size_of (state_at t slot) = p.put.stock in
        balance t.stock (stock s.base next) s.stock (stock s.base now) (size_of (state_at s slot)) (size_of (state_at t slot)) law old new
      where
        balance : (x y u v i j : ℕ) → y + i ≡ v + j → u ≡ v → x + i ≡ u + j → x ≡ y
        balance x y u v i j a b c = omega arith

    state_then : (i : ℕ) (b : Bool) → nat_eq i slot ≡ b → keeping.StandsFor (state_at t i) (source_of (key_at s.table i) next)
    state_then i true h =
        subst (λ j. keeping.StandsFor (state_at t j) (source_of (key_at s.table j) next)) (sym (equal i slot h))
        (subst (λ (o : Option Key). keeping.StandsFor (state_at t slot) (source_of o next)) (sym p.here) p.state)
    state_then i false h =
        subst (λ (x : Kept). keeping.StandsFor x (source_of (key_at s.table i) next)) (sym (p.put.others i h)) (by (key_at s.table i) refl (p.st.states i))
      where
        by : (o : Option Key) → key_at s.table i ≡ o → keeping.StandsFor (state_at s i) (source_of o now) → keeping.StandsFor (state_at s i) (source_of o next)
        by None q g = g
        by (Some j) q g = subst (λ (es : List Event). keeping.StandsFor (state_at s i) es) (sym (source-elsewhere j (Came e.key e) now (apart i j h q))) g

    number_own : (i : ℕ) (j : Key) (c : Commit) → key_at s.table i ≡ Some j → last s.base j next ≡ Some c → (b : Bool) → nat_eq i slot ≡ b → number_at t i ≡ c.number
    number_own i j c k l true h =
        let here : i ≡ slot = equal i slot h in
        let key : j ≡ e.key = some-same j e.key (sym k ∙ ap (key_at s.table) here ∙ p.here) in
        p.put.numbers i ∙ ap (λ b. if b && makes_commit answer then t.count else number_at s i) h ∙ ap (λ (x : Ingest). if makes_commit x then t.count else number_at s i) p.answer_is
        ∙ number_then s.base e.key e now t.count (number_at s i) c p.wanted_is p.count_is
        (λ q. ap (number_at s) here ∙ p.st.numbers slot e.key c p.here q) (ap (λ (x : Key). last s.base x next) (sym key) ∙ l)
    number_own i j c k l false h =
        p.put.numbers i ∙ ap (λ b. if b && makes_commit answer then t.count else number_at s i) h
        ∙ p.st.numbers i j c k (sym (last-elsewhere s.base j (Came e.key e) now (apart i j h k)) ∙ l)

    fed_then : (a i : ℕ) (b : Bool) → nat_eq i slot ≡ b → IsFed (terms_in s) a (key_at s.table i) (feed_at t a i) next
    fed_then a i true h =
        subst (λ j. IsFed (terms_in s) a (key_at s.table j) (feed_at t a j) next) (sym (equal i slot h))
        (subst (λ (o : Option Key). IsFed (terms_in s) a o (feed_at t a slot) next) (sym p.here) (feed_own p a))
    fed_then a i false h =
        subst (λ (f : Feeding). IsFed (terms_in s) a (key_at s.table i) f next) (sym (feed_there p a i h)) (by (key_at s.table i) refl (p.st.feeds a i))
      where
        by : (o : Option Key) → key_at s.table i ≡ o → IsFed (terms_in s) a o (feed_at s a i) now → IsFed (terms_in s) a o (feed_at s a i) next
        by None q g = g
        by (Some j) q g = quiet_stands (terms_in s) a j (feed_at s a i) (Came e.key e) now (quiet-elsewhere (terms_in s) a j (Came e.key e) now (apart i j h q)) g

    labels_here : AllOf e.key (source e.key next)
    labels_here = subst (λ (es : List Event). AllOf e.key es) (sym p.came) (refl, p.st.labels e.key)

    labels_then_of : (j : Key) → AllOf j (source j next)
    labels_then_of j = by (cases_Bool (key_eq j e.key))
      where
        by : (key_eq j e.key ≡ true) ⊎ (key_eq j e.key ≡ false) → AllOf j (source j next)
        by (inl h) = subst (λ (y : Key). AllOf y (source y next)) (sym (key_eq-true j e.key h)) labels_here
        by (inr h) = subst (λ (es : List Event). AllOf j es) (sym (source-elsewhere j (Came e.key e) now h)) (p.st.labels j)

    owed_labels_of : (a i : ℕ) (j : Key) → key_at s.table i ≡ Some j → (b : Bool) → nat_eq i slot ≡ b → AllOf j (events (feed_at t a i).owed)
    owed_labels_of a i j k true h =
        let here : i ≡ slot = equal i slot h in
        let key : j ≡ e.key = some-same j e.key (sym k ∙ ap (key_at s.table) here ∙ p.here) in
        subst (λ (y : Key). AllOf y (events (feed_at t a i).owed)) (sym key) (subst (λ x. AllOf e.key (events (feed_at t a x).owed)) (sym here) (labels_own p labels_here a))
    owed_labels_of a i j k false h = subst (λ (f : Feeding). AllOf j (events f.owed)) (sym (feed_there p a i h)) (p.st.owed_labels a i j k)

    unfed_then : (a i : ℕ) → is_subscribed (hold_for s.table a i) ≡ false → (b : Bool) → nat_eq i slot ≡ b → feed_at t a i ≡ nothing
    unfed_then a i u true h = feed_unsub p a i (sym (ap (λ j. is_subscribed (hold_for s.table a j)) (equal i slot h)) ∙ u) ∙ p.st.unfed a i u
    unfed_then a i u false h = feed_there p a i h ∙ p.st.unfed a i u

-- a stripe stands after an event was put
pub put_stands : (s t : Shown) (e : Event) (now : HistMoment) → StandsAt s now → IsPut s e t → StandsAt t (Came e.key e ∷ now)
put_stands s t e now st (inl u) = subst (λ (x : Shown). StandsAt x (Came e.key e ∷ now)) (sym u.1) (put_unwanted s e now st (nobody (slot_for s.table e.key) refl))
  where
    nobody : (o : Option ℕ) → slot_for s.table e.key ≡ o → wanted e.key now ≡ false
    nobody None h = wanted-absent s.table no_keeps now st.table e.key h
    nobody (Some slot) h = wanted-table s.table no_keeps now st.table e.key slot (key_at-found s.table e.key slot h) ∙ u.0 slot h
put_stands s t e now st (inr p) = put_wanted (putting s t e p.0 p.1 now st p.2)
