-- A stripe stands after a subscription.
use Rattle.std.proofs.Common.{◌≡◌, ◌⊎◌, inl, inr, ℕ, Bool, true, false, ◌&&◌, ◌||◌, not, if◌then◌else◌, nat_eq, Option, Some, None, is_some, List, ◌∷◌, reverse, refl, ap, sym, ◌∙◌, subst}
use Rattle.std.proofs.Math.Bool.{and-true}
use Rattle.qd_scheme.specs.declared.key.Key.{Key}
use Rattle.qd_scheme.specs.declared.key.Event.{Event}
use Rattle.qd_scheme.specs.Keys.{key_eq}
use Rattle.qd_gate.specs.declared.machine.Terms.{Terms}
use Rattle.qd_pend.proofs.ListLaws.{same, equal}
use Rattle.qd_sub.specs.Acts.{Subscribed, newest_key, is_pair}
use Rattle.qd_sub.specs.Subscriptions.{limit_of, subscribed, wanted}
use Rattle.qd_sub.proofs.OrderLaws.{is_about}
use Rattle.qd_sub.proofs.SubscriptionLaws.{subscribed-sub, kept-sub, wanted-sub}
use Rattle.qd_sub.proofs.HeldLaws.{limit_of-sub}
use Rattle.qd_slots.specs.Holds.{is_subscribed}
use Rattle.qd_slots.specs.declared.holds.Hold.TheVariants.{Subscribed as Active}
use Rattle.qd_table.specs.Tables.{key_at, slot_for, hold_for, limit_for}
use Rattle.qd_table.specs.Steps.{is_cell}
use Rattle.qd_table.specs.Standing as table
use Rattle.qd_table.proofs.TableLaws.{true-false, some-same, some-none, key_at-found}
use Rattle.qd_table.proofs.CallSteps.{cell-here, cell-elsewhere}
use Rattle.qd_table.proofs.StandLaws.{wanted-absent, subscribed-absent}
use Rattle.qd_table.proofs.StandSteps.{stands-subscribed}
use Rattle.qd_hist_key.specs.Kept.{Kept}
use Rattle.qd_hist_key.specs.Keeping as keeping
use Rattle.qd_hist_rules.specs.Moments.{HistMoment, events}
use Rattle.qd_hist_rules.specs.Source.{source, Commit, last, count, stock, made}
use Rattle.qd_hist_rules.specs.Standing.{standing, is_begun, has_overflowed, is_due, due_keys, is_snapshot_commit, overflows_by, all_settled}
use Rattle.qd_hist_rules.specs.Lawful.{Lawful}
use Rattle.qd_hist_rules.proofs.ActFacts.{self_pair}
use Rattle.qd_hist_rules.proofs.Stock.{stock-subscribed}
use Rattle.qd_hist_feed.specs.Feeding.{Feeding, nothing, is_done}
use Rattle.qd_hist_feed.specs.Stands as feed
use Rattle.qd_hist_feed.specs.Laws.{IsQuiet}
use Rattle.qd_hist_feed.proofs.Sweeping.{quiet_stands}
use Rattle.qd_hist_stand.specs.Stripes.{AllOf, IsFed, no_keeps, source_of, state_at, number_at, feed_at, floor_at, due_at, terms_in}
use Rattle.qd_hist_stand.specs.Laws.{SubscribingStands}
use Rattle.qd_hist_stand.proofs.Elsewhere.{and-false, last-unwanted, source-unwanted, quiet-elsewhere}
use Rattle.qd_hist_stand.proofs.Base.{due-of, feed-of, terms-same, floor-alike, due-alike}
use Rattle.qd_hist_stand.proofs.Moves.{key-apart, IsMoved, due-moved, once-moved, order-moved}
use Rattle.qd_hist_stand.proofs.Restarts.{IsRestart, feed-restarted, moved-restarted, owed-restarted, within-restarted}

-- the events of each key and its last commit are the same after a subscription
pub source-sub : (j : Key) (a : ℕ) (k : Key) (limit : ℕ) (now : HistMoment) → source j (Subscribed a k limit ∷ now) ≡ source j now
source-sub j a k limit now = ap (λ (es : List Event). reverse es) (kept-sub j a k limit now)

pub last-sub : (base : ℕ) (j : Key) (a : ℕ) (k : Key) (limit : ℕ) (now : HistMoment) → last base j (Subscribed a k limit ∷ now) ≡ last base j now
last-sub base j a k limit now = go (wanted j (Subscribed a k limit ∷ now)) refl (wanted j now) refl
  where
    go : (c : Bool) → wanted j (Subscribed a k limit ∷ now) ≡ c → (b : Bool) → wanted j now ≡ b → last base j (Subscribed a k limit ∷ now) ≡ last base j now
    go true f b e = ap (λ (x : Bool). if x then last base j now else None) f
    go false f true e = absurd (true-false (sym (wanted-sub j a k limit now e) ∙ f))
    go false f false e = ap (λ (x : Bool). if x then last base j now else None) f ∙ sym (last-unwanted base j now e)

-- a pair that was just subscribed is not begun
begun-sub : (terms : Terms) (a : ℕ) (k : Key) (limit : ℕ) (now : HistMoment) → is_begun terms a k (Subscribed a k limit ∷ now) ≡ false
begun-sub terms a k limit now =
    ap (λ (b : Bool). subscribed a k (Subscribed a k limit ∷ now) && (not (b || is_snapshot_commit (made terms.base k (Subscribed a k limit ∷ now)) || (overflows_by (standing terms a now) terms a k now (made terms.base k (Subscribed a k limit ∷ now)) && all_settled (standing terms a now) a now)) && (standing terms a now k).begin_given)) (self_pair a k)
    ∙ and-false (subscribed a k (Subscribed a k limit ∷ now))

-- a pair that is not subscribed is not begun
pub begun-unsubscribed : (terms : Terms) (a : ℕ) (k : Key) (now : HistMoment) → subscribed a k now ≡ false → is_begun terms a k now ≡ false
begun-unsubscribed terms a k now h = ap (λ (b : Bool). b && (standing terms a now k).begin_given) h

-- a feed of nothing stands where the pair is not begun
pub nothing-stands : (terms : Terms) (a : ℕ) (k : Key) (now : HistMoment) → is_begun terms a k now ≡ false → feed.StandsFor terms a k nothing now
nothing-stands terms a k now h = (refl, ap (λ (b : Bool). not b || has_overflowed terms a k now) h)

pub subscribing-stands : SubscribingStands
unfolding subscribed
subscribing-stands s t a k limit slot now st h = record {
  table = tab;
  lawful = lawful_then;
  count_is = h.numbers.count ∙ st.count_is ∙ ap (λ (b : ℕ). count b now) (sym h.numbers.base);
  stock_is = h.numbers.stock ∙ st.stock_is ∙ sym (stock-subscribed s.base a k limit now) ∙ ap (λ (b : ℕ). stock b next) (sym h.numbers.base);
  states = λ i. state i (nat_eq i slot) refl;
  numbers = λ i j c e l. number i j c (nat_eq i slot) refl e (sym (last-sub s.base j a k limit now) ∙ ap (λ (b : ℕ). last b j next) (sym h.numbers.base) ∙ l);
  feeds = λ b i. subst (λ (x : Terms). IsFed x b (key_at t.table i) (feed_at t b i) next) (sym terms) (fed b i (nat_eq i slot) refl);
  labels = λ j. subst (λ (es : List Event). AllOf j es) (sym (source-sub j a k limit now)) (st.labels j);
  owed_labels = λ b i j e. owed_label b i j (nat_eq i slot) refl e;
  unfed = λ b i e. unfed_then b i (is_cell b i a slot) refl e;
  due = due-moved s t slot now st moved;
  once = once-moved s t slot now st moved;
  order = λ b. ap (λ (x : Terms). due_keys x b next) terms
      ∙ order-moved s t slot now st moved b k (Subscribed a k limit) h.table.found refl (λ y. refl) elsewhere (λ d. here) (sym (due_then b));
  owed = owed-restarted s t a slot (floor_at t a slot) now st restart;
  within = within-restarted s t a slot (floor_at t a slot) now st restart;
}
  where
    next : HistMoment
    next = Subscribed a k limit ∷ now

    terms : terms_in t ≡ terms_in s
    terms = terms-same s t h.numbers.hcap h.numbers.base

    tab : table.StandsFor t.table no_keeps next
    tab = stands-subscribed s.table t.table no_keeps now a k limit slot st.table h.agent h.table

    lawful_then : Lawful (terms_in t) next
    lawful_then = subst (λ (x : Terms). Lawful x next) (sym terms) st.lawful

    elsewhere : (i : ℕ) → nat_eq i slot ≡ false → key_at t.table i ≡ key_at s.table i
    elsewhere i e = h.table.names i ∙ ap (λ (b : Bool). if b then Some k else key_at s.table i) e

    here : key_at t.table slot ≡ Some k
    here = h.table.names slot ∙ ap (λ (b : Bool). if b then Some k else key_at s.table slot) (same slot)

    apart : (i : ℕ) (j : Key) → key_at t.table i ≡ Some j → nat_eq i slot ≡ false → is_about key_eq j (newest_key next) ≡ false
    apart i j there e = key-apart (key_at t.table) (λ x y l p q. some-same x y (sym (tab.sound.found x l p) ∙ tab.sound.found y l q)) slot i k j here there e

    -- the slot had its key, or was vacant
    before : (key_at s.table slot ≡ Some k) ⊎ ((slot_for s.table k ≡ None) × (key_at s.table slot ≡ None))
    before = elim h.table.found [ inl o ↦ inl (key_at-found s.table k slot o) | inr o ↦ inr o ]

    source_then : (o : Option Key) → source_of o next ≡ source_of o now
    source_then None = refl
    source_then (Some j) = source-sub j a k limit now

    source_here : source k now ≡ source_of (key_at s.table slot) now
    source_here = elim before [
      | inl o ↦ sym (ap (λ (x : Option Key). source_of x now) o)
      | inr o ↦ source-unwanted k now (wanted-absent s.table no_keeps now st.table k o.0) ∙ sym (ap (λ (x : Option Key). source_of x now) o.1)
    ]

    kept_state : (i : ℕ) → source_of (key_at t.table i) next ≡ source_of (key_at s.table i) now → keeping.StandsFor (state_at t i) (source_of (key_at t.table i) next)
    kept_state i e =
        subst (λ (x : Kept). keeping.StandsFor x (source_of (key_at t.table i) next)) (sym (h.tracks.states i))
        (subst (λ (es : List Event). keeping.StandsFor (state_at s i) es) (sym e) (st.states i))

    state : (i : ℕ) (c : Bool) → nat_eq i slot ≡ c → keeping.StandsFor (state_at t i) (source_of (key_at t.table i) next)
    state i false e = kept_state i (source_then (key_at t.table i) ∙ ap (λ (x : Option Key). source_of x now) (elsewhere i e))
    state i true e =
        kept_state i
        (ap (λ (x : ℕ). source_of (key_at t.table x) next) (equal i slot e) ∙ ap (λ (x : Option Key). source_of x next) here ∙ source-sub k a k limit now ∙ source_here
        ∙ ap (λ (x : ℕ). source_of (key_at s.table x) now) (sym (equal i slot e)))

    number : (i : ℕ) (j : Key) (c : Commit) (b : Bool) → nat_eq i slot ≡ b → key_at t.table i ≡ Some j → last s.base j now ≡ Some c → number_at t i ≡ c.number
    number i j c false e o l = h.tracks.numbers i ∙ st.numbers i j c (sym (elsewhere i e) ∙ o) l
    number i j c true e o l =
        let at : i ≡ slot = equal i slot e in
        let key : k ≡ j = some-same k j (sym here ∙ ap (key_at t.table) (sym at) ∙ o) in
        elim before [
          | inl p ↦ h.tracks.numbers i ∙ st.numbers i j c (ap (key_at s.table) at ∙ p ∙ ap (λ (x : Key). let q : Option Key = Some x in q) key) l
          | inr p ↦ absurd (some-none c (sym l ∙ ap (λ (x : Key). last s.base x now) (sym key) ∙ last-unwanted s.base k now (wanted-absent s.table no_keeps now st.table k p.0)))
        ]

    feed_then : (b i : ℕ) (c : Bool) → is_cell b i a slot ≡ c → feed_at t b i ≡ (if c then nothing else feed_at s b i)
    feed_then b i c e = feed-restarted s t a slot (floor_at t a slot) h.part b i c e

    fed_elsewhere : (b i : ℕ) → nat_eq i slot ≡ false → (o : Option Key) → key_at t.table i ≡ o → IsFed (terms_in s) b o (feed_at s b i) next
    fed_elsewhere b i e None o = subst (λ (x : Option Key). IsFed (terms_in s) b x (feed_at s b i) now) (sym (elsewhere i e) ∙ o) (st.feeds b i)
    fed_elsewhere b i e (Some j) o =
        quiet_stands (terms_in s) b j (feed_at s b i) (Subscribed a k limit) now (quiet-elsewhere (terms_in s) b j (Subscribed a k limit) now (apart i j o e))
        (subst (λ (x : Option Key). IsFed (terms_in s) b x (feed_at s b i) now) (sym (elsewhere i e) ∙ o) (st.feeds b i))

    other_pair : (b : ℕ) → nat_eq b a ≡ false → is_pair b k a k ≡ false
    other_pair b e = ap (λ (c : Bool). c && key_eq k k) e

    other_quiet : (b : ℕ) → nat_eq b a ≡ false → IsQuiet (terms_in s) b k (Subscribed a k limit) now
    other_quiet b e = record {
      no_gift = refl;
      no_commit = refl;
      same_limit = limit_of-sub b k a k limit now ∙ ap (λ (c : Bool). if c then Some limit else limit_of b k now) (other_pair b e);
      no_sub = other_pair b e;
    }

    fed_here : (b : ℕ) (c : Bool) → nat_eq b a ≡ c → feed.StandsFor (terms_in s) b k (feed_at t b slot) next
    fed_here b true e =
        subst (λ (x : Feeding). feed.StandsFor (terms_in s) b k x next) (sym (feed_then b slot true (cell-here b a slot ∙ e)))
        (nothing-stands (terms_in s) b k next (ap (λ (x : ℕ). is_begun (terms_in s) x k next) (equal b a e) ∙ begun-sub (terms_in s) a k limit now))
    fed_here b false e =
        subst (λ (x : Feeding). feed.StandsFor (terms_in s) b k x next) (sym (feed_then b slot false (cell-here b a slot ∙ e)))
        (elim before [
          | inl o ↦ quiet_stands (terms_in s) b k (feed_at s b slot) (Subscribed a k limit) now (other_quiet b e) (feed-of s now st b slot k o)
          | inr o ↦ subst (λ (x : Feeding). feed.StandsFor (terms_in s) b k x next) (sym (subst (λ (x : Option Key). IsFed (terms_in s) b x (feed_at s b slot) now) o.1 (st.feeds b slot)))
              (nothing-stands (terms_in s) b k next (begun-unsubscribed (terms_in s) b k next (subscribed-sub b k a k limit now ∙ ap (λ (c : Bool). c || subscribed b k now) (other_pair b e) ∙ subscribed-absent s.table no_keeps now st.table b k o.0)))
        ])

    fed : (b i : ℕ) (c : Bool) → nat_eq i slot ≡ c → IsFed (terms_in s) b (key_at t.table i) (feed_at t b i) next
    fed b i false e = subst (λ (x : Feeding). IsFed (terms_in s) b (key_at t.table i) x next) (sym (feed_then b i false (cell-elsewhere b i a slot e))) (fed_elsewhere b i e (key_at t.table i) refl)
    fed b i true e =
        subst (λ (x : ℕ). IsFed (terms_in s) b (key_at t.table x) (feed_at t b x) next) (sym (equal i slot e))
        (subst (λ (x : Option Key). IsFed (terms_in s) b x (feed_at t b slot) next) (sym here) (fed_here b (nat_eq b a) refl))

    no_events : (j : Key) (x : Feeding) → x ≡ nothing → AllOf j (events x.owed)
    no_events j x e = subst (λ (y : Feeding). AllOf j (events y.owed)) (sym e) tt

    owed_label : (b i : ℕ) (j : Key) (c : Bool) → nat_eq i slot ≡ c → key_at t.table i ≡ Some j → AllOf j (events (feed_at t b i).owed)
    owed_label b i j false e o = subst (λ (x : Feeding). AllOf j (events x.owed)) (sym (feed_then b i false (cell-elsewhere b i a slot e))) (st.owed_labels b i j (sym (elsewhere i e) ∙ o))
    owed_label b i j true e o = go (is_cell b i a slot) refl
      where
        at : i ≡ slot
        at = equal i slot e

        key : k ≡ j
        key = some-same k j (sym here ∙ ap (key_at t.table) (sym at) ∙ o)

        go : (d : Bool) → is_cell b i a slot ≡ d → AllOf j (events (feed_at t b i).owed)
        go true f = no_events j (feed_at t b i) (feed_then b i true f)
        go false f = subst (λ (x : Feeding). AllOf j (events x.owed)) (sym (feed_then b i false f)) (elim before [
          | inl p ↦ st.owed_labels b i j (ap (key_at s.table) at ∙ p ∙ ap (λ (x : Key). let q : Option Key = Some x in q) key)
          | inr p ↦ no_events j (feed_at s b i) (subst (λ (x : Option Key). IsFed (terms_in s) b x (feed_at s b i) now) (ap (key_at s.table) at ∙ p.1) (st.feeds b i))
        ])

    unfed_then : (b i : ℕ) (c : Bool) → is_cell b i a slot ≡ c → is_subscribed (hold_for t.table b i) ≡ false → feed_at t b i ≡ nothing
    unfed_then b i true e f = feed_then b i true e
    unfed_then b i false e f =
        feed_then b i false e ∙ st.unfed b i (ap is_subscribed (sym (h.table.holds b i ∙ ap (λ (x : Bool). if x then Active else hold_for s.table b i) e)) ∙ f)

    alike : (b i : ℕ) → is_cell b i a slot ≡ false → due_at t b i ≡ due_at s b i
    alike b i e =
        due-alike s t b i
        (floor-alike s t b i (h.table.limits b i ∙ ap (λ (x : Bool). if x then Some limit else limit_for s.table b i) e) (ap (λ (x : Kept). x.now.floor) (h.tracks.states i)))
        (feed_then b i false e)

    fits : due_at t a slot ≡ is_some (floor_at t a slot)
    fits = ap (λ (x : Feeding). is_some (floor_at t a slot) && not (is_done x)) (feed_then a slot true (cell-here a a slot ∙ same a)) ∙ and-true (is_some (floor_at t a slot))

    restart : IsRestart s t a slot (floor_at t a slot)
    restart = record { part = h.part; hcap = h.numbers.hcap; due = fits; alike = alike; ordered = true; orders = h.table.orders }

    moved : IsMoved s t slot
    moved = moved-restarted s t a slot (floor_at t a slot) now st restart

    due_then : (b : ℕ) → due_at t b slot ≡ is_due (terms_in s) b k next
    due_then b =
        due-of t next b slot k tab lawful_then here (subst (λ (o : Option Key). keeping.StandsFor (state_at t slot) (source_of o next)) here (state slot (nat_eq slot slot) refl))
        (subst (λ (x : Terms). feed.StandsFor x b k (feed_at t b slot) next) (sym terms) (fed_here b (nat_eq b a) refl))
        ∙ ap (λ (x : Terms). is_due x b k next) terms
