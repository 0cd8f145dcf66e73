-- A new stripe stands for no acts, and more room changes nothing.
use Rattle.std.proofs.Common.{◌≡◌, ℕ, zero, suc, ◌≤◌, ◌&&◌, not, Option, Some, None, is_some, List, [], length, replicate, slice_index_or, refl, ap, sym, ◌∙◌, arith, subst}
use Rattle.qd_scheme.specs.declared.key.Key.{Key}
use Rattle.qd_scheme.specs.declared.key.Event.{Event}
use Rattle.qd_flags.specs.Following as following
use Rattle.qd_gate.specs.declared.machine.Terms.{Terms}
use Rattle.qd_pend.specs.Slots.{has, EachOnce}
use Rattle.qd_sub.specs.Since.{by_since, begun_within}
use Rattle.qd_sub.specs.Subscriptions.{kept}
use Rattle.qd_slots.specs.Holds.{is_subscribed}
use Rattle.qd_table.specs.Tables.{key_at, keys_at, limit_for, order_of, no_table}
use Rattle.qd_table.proofs.TableLaws.{some-none}
use Rattle.qd_table.proofs.KeyLists.{keys-agree}
use Rattle.qd_table.proofs.NewLaws.{stands-new}
use Rattle.qd_table.proofs.StandOthers.{stands-same}
use Rattle.qd_hist_key.specs.Keeping as keeping
use Rattle.qd_hist_rules.specs.declared.floor.AgentFloor.{AgentFloor}
use Rattle.qd_hist_rules.specs.declared.item.HistItem.{HistItem}
use Rattle.qd_hist_rules.specs.Moments.{events}
use Rattle.qd_hist_rules.specs.Source.{source, last, count, stock}
use Rattle.qd_hist_rules.specs.Standing.{due_keys}
use Rattle.qd_hist_rules.specs.Lawful.{Lawful}
use Rattle.qd_hist_feed.specs.Feeding.{Feeding, nothing, is_done}
use Rattle.qd_hist_stand.specs.Stripes.{Shown, Side, AllOf, IsFed, no_side, no_feed, no_keeps, source_of, state_at, feed_at, queue_at, owed_at, owed_of, floor_in, terms_in}
use Rattle.qd_hist_stand.specs.Laws.{new_stripe, NewStands, RoomierStands}
use Rattle.qd_hist_stand.proofs.Base.{terms-same, floor-alike, due-alike}
use Rattle.qd_hist_stand.proofs.Sums.{owed_in, sum-agree, sum-none}

-- at first
empty-side : (n a : ℕ) → slice_index_or (replicate n no_side) a no_side ≡ no_side
empty-side zero a = refl
empty-side (suc n) zero = refl
empty-side (suc n) (suc a) = empty-side n a

no-key : (slot : ℕ) → key_at no_table slot ≡ None
unfolding key_at
no-key slot = refl

no-source : (k : Key) → source k [] ≡ []
unfolding kept
no-source k = refl

no-stock : (base : ℕ) → stock base [] ≡ 0
unfolding stock by_since begun_within
no-stock base = refl

no-due : (t : Terms) (a : ℕ) → due_keys t a [] ≡ []
unfolding by_since begun_within
no-due t a = refl

no-keys : keys_at no_table [] ≡ []
unfolding keys_at
no-keys = refl

once-empty : EachOnce []
unfolding EachOnce
once-empty = tt

no-floor : (limit : Option ℕ) → floor_in limit None ≡ None
no-floor None = refl
no-floor (Some n) = refl

pub new-stands : NewStands
new-stands hcap base = record {
  table = stands-new Event HistItem;
  lawful = tt;
  count_is = refl;
  stock_is = sym (no-stock base);
  states = λ slot. subst (λ (o : Option Key). keeping.StandsFor (state_at new slot) (source_of o [])) (sym (no-key slot)) empty_state;
  numbers = λ slot k c e l. absurd (some-none k (sym e ∙ no-key slot));
  feeds = λ a slot. subst (λ (o : Option Key). IsFed (terms_in new) a o (feed_at new a slot) []) (sym (no-key slot)) (fed a slot);
  labels = λ k. subst (λ (es : List Event). AllOf k es) (sym (no-source k)) tt;
  owed_labels = λ a slot k e. absurd (some-none k (sym e ∙ no-key slot));
  unfed = λ a slot h. fed a slot;
  due = λ a slot. ap (λ (x : Side). has x.queue.list slot) (empty-side 128 a) ∙ sym (ap (λ (o : Option AgentFloor). is_some o && not (is_done (feed_at new a slot))) (no-floor (limit_for no_table a slot)));
  once = λ a. subst EachOnce (sym (queue a)) once-empty;
  order = λ a. no-due (terms_in new) a ∙ sym (ap (keys_at no_table) (queue a) ∙ no-keys);
  owed = λ a. owes a ∙ sym (sum-none (owed_in new a) (order_of no_table a) (λ slot. ap (λ (f : Feeding). length f.owed) (fed a slot)));
  within = λ a. (let none : owed_at new a ≡ 0 = owes a in omega (arith, none));
}
  where
    new : Shown
    new = new_stripe hcap base

    empty_state : keeping.StandsFor (record { now = following.nothing; width = None; spare = 0 }) []
    empty_state = record {
      now = record { floor_is = refl; falls = tt; map_is = λ q. refl; held_is = refl; batch_is = refl; begun_is = refl; end_is = refl };
      width_is = refl;
    }

    fed : (a slot : ℕ) → feed_at new a slot ≡ nothing
    fed a slot = ap (λ (x : Side). (slice_index_or x.feeds slot no_feed).now) (empty-side 128 a)

    queue : (a : ℕ) → queue_at new a ≡ []
    queue a = ap (λ (x : Side). x.queue.list) (empty-side 128 a)

    owes : (a : ℕ) → owed_at new a ≡ 0
    owes a = ap (λ (x : Side). x.owed) (empty-side 128 a)

-- more room
pub roomier-stands : RoomierStands
roomier-stands s t now st room = record {
  table = stands-same s.table t.table no_keeps now st.table room.table;
  lawful = subst (λ (x : Terms). Lawful x now) (sym terms) st.lawful;
  count_is = room.numbers.count ∙ st.count_is ∙ ap (λ (b : ℕ). count b now) (sym room.numbers.base);
  stock_is = room.numbers.stock ∙ st.stock_is ∙ ap (λ (b : ℕ). stock b now) (sym room.numbers.base);
  states = state;
  numbers = λ slot k c e l. room.track_numbers slot ∙ st.numbers slot k c (sym (room.table.names slot) ∙ e) (ap (λ (b : ℕ). last b k now) (sym room.numbers.base) ∙ l);
  feeds = λ a slot.
      subst (λ (f : Feeding). IsFed (terms_in t) a (key_at t.table slot) f now) (sym (room.feeds a slot))
      (subst (λ (x : Terms). IsFed x a (key_at t.table slot) (feed_at s a slot) now) (sym terms)
      (subst (λ (o : Option Key). IsFed (terms_in s) a o (feed_at s a slot) now) (sym (room.table.names slot)) (st.feeds a slot)));
  labels = st.labels;
  owed_labels = λ a slot k e. subst (λ (f : Feeding). AllOf k (events f.owed)) (sym (room.feeds a slot)) (st.owed_labels a slot k (sym (room.table.names slot) ∙ e));
  unfed = λ a slot h. room.feeds a slot ∙ st.unfed a slot (ap is_subscribed (sym (room.table.holds a slot)) ∙ h);
  due = λ a slot. ap (λ (q : List ℕ). has q slot) (room.queues a) ∙ st.due a slot ∙ sym (due-alike s t a slot (floor-alike s t a slot (room.table.limits a slot) (ap (λ (x : following.Following). x.floor) (room.states slot))) (room.feeds a slot));
  once = λ a. subst EachOnce (sym (room.queues a)) (st.once a);
  order = λ a. ap (λ (x : Terms). due_keys x a now) terms ∙ st.order a ∙ sym (ap (keys_at t.table) (room.queues a) ∙ keys-agree t.table s.table (queue_at s a) (λ i h. room.table.names i));
  owed = λ a. room.owed a ∙ st.owed a ∙ sym (ap (owed_of t a) (room.table.orders a) ∙ sum-agree (owed_in s a) (owed_in t a) (order_of s.table a) (λ i h. ap (λ (f : Feeding). length f.owed) (room.feeds a i)));
  within = λ a. (let same : owed_at t a ≡ owed_at s a = room.owed a in let cap : t.hcap ≡ s.hcap = room.numbers.hcap in let low : owed_at s a ≤ s.hcap = st.within a in omega (arith, same, cap, low));
}
  where
    terms : terms_in t ≡ terms_in s
    terms = terms-same s t room.numbers.hcap room.numbers.base

    state : (slot : ℕ) → keeping.StandsFor (state_at t slot) (source_of (key_at t.table slot) now)
    state slot =
        let old : keeping.StandsFor (state_at s slot) (source_of (key_at t.table slot) now) =
        subst (λ (o : Option Key). keeping.StandsFor (state_at s slot) (source_of o now)) (sym (room.table.names slot)) (st.states slot) in
        record {
          now = subst (λ (x : following.Following). following.StandsFor x (source_of (key_at t.table slot) now)) (sym (room.states slot)) old.now;
          width_is = room.widths slot ∙ old.width_is;
        }
