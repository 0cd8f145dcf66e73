-- After an item was given: it was lawful, and the stripe stands for the moment with it.
use Rattle.std.proofs.Common.{◌≡◌, ◌≤◌, ◌^◌, arith, ℕ, ◌<◌, Bool, true, false, not, if◌then◌else◌, Option, Some, None, is_some, List, [], ◌∷◌, refl, ap, sym, ◌∙◌}
use Rattle.qd_scheme.specs.declared.key.Key.{Key}
use Rattle.qd_pend.specs.Slots.{has, without, first_in}
use Rattle.qd_pend.proofs.ListLaws.{has-here}
use Rattle.qd_sub.specs.Acts.{Gave}
use Rattle.qd_sub.specs.Subscriptions.{limit_of}
use Rattle.qd_slots.specs.Holds.{is_subscribed}
use Rattle.qd_slots.specs.Views.{queued}
use Rattle.qd_table.specs.Tables.{key_at, hold_for, limit_for}
use Rattle.qd_table.proofs.TableLaws.{some-none, some-same, limit_for-some}
use Rattle.qd_hist_rules.specs.declared.floor.AgentFloor.{AgentFloor}
use Rattle.qd_hist_rules.specs.declared.item.HistItem.{HistItem}
use Rattle.qd_hist_rules.specs.Moments.{HistMoment, item_key}
use Rattle.qd_hist_rules.specs.Source.{Commit, last}
use Rattle.qd_hist_rules.specs.Agent.{agent_floor}
use Rattle.qd_hist_rules.specs.Lawful.{LawfulItem}
use Rattle.qd_hist_rules.proofs.Begun.{meets}
use Rattle.qd_hist_feed.specs.Feeding.{top, next_item, after_next}
use Rattle.qd_hist_feed.specs.Stands as feed
use Rattle.qd_hist_feed.specs.Laws.{CanGive}
use Rattle.qd_hist_feed.proofs.Giving.{gift_stands}
use Rattle.qd_hist_feed.proofs.Sizes.{high-of}
use Rattle.qd_hist_stand.specs.Stripes.{Shown, StandsAt, state_at, number_at, feed_at, floor_in, floor_at, terms_in}
use Rattle.qd_hist_stand.specs.Steps.{IsGiven}
use Rattle.qd_hist_stand.proofs.Base.{state-of, feed-of, floor-is}
use Rattle.qd_hist_stand.proofs.Gifts.{next-key}

-- a pair with a floor is subscribed
pub floor-subscribed : (s : Shown) (a slot : ℕ) (f : AgentFloor) → floor_at s a slot ≡ Some f → is_subscribed (hold_for s.table a slot) ≡ true
floor-subscribed s a slot f h = sym (limit_for-some s.table a slot) ∙ go (limit_for s.table a slot) refl
  where
    go : (o : Option ℕ) → limit_for s.table a slot ≡ o → is_some (limit_for s.table a slot) ≡ true
    go None e = absurd (some-none f (sym h ∙ ap (λ (o : Option ℕ). floor_in o (state_at s slot).now.floor) e))
    go (Some limit) e = ap (λ (o : Option ℕ). is_some o) e

-- the first of a list is in it
pub first-has : (list : List ℕ) (slot : ℕ) → first_in list ≡ Some slot → has list slot ≡ true
first-has [] slot h = cc h
first-has (x ∷ xs) slot h = let e : x ≡ slot = some-same x slot h in ap (λ (y : ℕ). has (y ∷ xs) slot) e ∙ has-here slot xs

-- a list that has the slot, and keeps it as long as there is more to give
pub gift-queue : (list : List ℕ) (slot : ℕ) (done : Bool) → has list slot ≡ true → (if done then without list slot else list) ≡ queued list slot (not done)
unfolding queued
gift-queue list slot true h = refl
gift-queue list slot false h = rw h refl

some-key : (j k : Key) → j ≡ k → (let m : Option Key = Some j in let n : Option Key = Some k in m ≡ n)
some-key j k e = ap (λ (x : Key). let o : Option Key = Some x in o) e

-- the item is of the slot's key
given-key : (s t : Shown) (a slot : ℕ) (i : HistItem) (now : HistMoment) → StandsAt s now → (g : IsGiven s a slot i t) → item_key i ≡ g.key
given-key s t a slot i now st g = next-key (feed_at s a slot) g.key (state_at s slot) g.floor (number_at s slot) i (st.owed_labels a slot g.key g.key_is) g.item_is

pub given-at : (s t : Shown) (a slot : ℕ) (i : HistItem) (now : HistMoment) → StandsAt s now → IsGiven s a slot i t → key_at s.table slot ≡ Some (item_key i)
given-at s t a slot i now st g = g.key_is ∙ some-key g.key (item_key i) (sym (given-key s t a slot i now st g))

-- it is lawful, and the feed that is left stands for it
pub given-lawful : (s t : Shown) (a slot : ℕ) (i : HistItem) (now : HistMoment) → StandsAt s now → (g : IsGiven s a slot i t)
    → LawfulItem (terms_in s) a (item_key i) i now × feed.StandsFor (terms_in s) a (item_key i) (after_next (feed_at s a slot) (state_at s slot) g.floor) (Gave a (item_key i) i ∷ now)
given-lawful s t a slot i now st g =
    gift_stands (terms_in s) a k (feed_at s a slot) g.floor c (state_at s slot) now i can (feed-of s now st a slot k own)
    (ap (λ (j : Key). next_item (feed_at s a slot) j (state_at s slot) g.floor c.number) (given-key s t a slot i now st g)
    ∙ ap (λ (n : ℕ). next_item (feed_at s a slot) g.key (state_at s slot) g.floor n) (sym (st.numbers slot k c own found.3)) ∙ g.item_is)
  where
    k : Key
    k = item_key i

    own : key_at s.table slot ≡ Some k
    own = given-at s t a slot i now st g

    floor : agent_floor s.base a k now ≡ Some g.floor
    floor = sym (floor-is s now st a slot k own) ∙ g.floor_is

    found : (l : ℕ) × (c : Commit) × (limit_of a k now ≡ Some l) × (last s.base k now ≡ Some c)
    found = meets (limit_of a k now) (last s.base k now) (ap (λ (o : Option AgentFloor). is_some o) floor)

    c : Commit
    c = found.1

    low : g.floor.index ≤ top
    low = let lt : g.floor.index < 2 ^ 64 = g.floor_low in omega (arith, lt)

    can : CanGive (terms_in s) a k g.floor c (state_at s slot) now
    can = record { lawful = st.lawful; floor_is = floor; last_is = found.3; state_is = state-of s now st slot k own; floor_low = low; high = high-of s.base k now c (state_at s slot) found.3 (state-of s now st slot k own) g.low }
