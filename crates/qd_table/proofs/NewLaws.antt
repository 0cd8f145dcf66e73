-- A table without slots.
use Rattle.std.proofs.Common.{◌≡◌, ℕ, false, ◌||◌, None, is_some, List, [], ◌∷◌, length, replicate, refl, ap, sym, ◌∙◌, arith, subst}
use Rattle.std.specs.List.{list_any}
use Rattle.qd_scheme.specs.declared.key.Key.{Key}
use Rattle.qd_sub.specs.Acts.{is_pair}
use Rattle.qd_sub.specs.Since.{by_since, begun_within}
use Rattle.qd_sub.specs.Subscriptions.{limit_of, subscribed}
use Rattle.qd_sub.specs.Watching.{known, lapsed}
use Rattle.qd_pend.specs.Slots.{SlotList, has, EachOnce}
use Rattle.qd_slots.specs.declared.holds.Hold.TheVariants.{Free}
use Rattle.qd_slots.specs.Names.{NameList, slot_from}
use Rattle.qd_slots.specs.Holds.{Holdings, no_order, is_subscribed, is_held}
use Rattle.qd_slots.specs.Views.{Viewing, no_viewing, no_view, view_at, view_differs}
use Rattle.qd_slots.proofs.HoldLaws.{at-replicate, holding-new}
use Rattle.qd_sub.proofs.StepLaws.{pair_eq-same}
use Rattle.qd_table.specs.Tables.{no_table, key_at, keys_at, slot_for, below, hold_for, limit_for, total_for, order_of, view_for, queue_of, differs_for, is_used, limit_by, holds_by, known_by, outdated_by, pairs_in}
use Rattle.qd_table.specs.Sound.{IsSound}
use Rattle.qd_table.specs.Standing.{StandsFor}
use Rattle.qd_table.specs.Stored.{Store, IsStored}
use Rattle.qd_table.proofs.TableLaws.{true-false, or-left, some-none, below-none}
use Rattle.qd_table.proofs.StandLaws.{none-total}

new-hold : (a slot : ℕ) → hold_for no_table a slot ≡ Free
unfolding hold_for
new-hold a slot = refl

new-limit : (a slot : ℕ) → limit_for no_table a slot ≡ None
unfolding limit_for
new-limit a slot = refl

new-view : (w slot : ℕ) → view_for no_table w slot ≡ no_view
unfolding view_for
new-view w slot = ap (λ v. view_at v.views slot) (at-replicate 8 w no_viewing)

new-queue : (w : ℕ) → queue_of no_table w ≡ []
unfolding queue_of
new-queue w = ap (λ v. v.queue.list) (at-replicate 8 w no_viewing)

new-order : (a : ℕ) → order_of no_table a ≡ []
unfolding order_of
new-order a = ap (λ o. o.list) (at-replicate 128 a no_order)

new-key : (slot : ℕ) → key_at no_table slot ≡ None
unfolding key_at
new-key slot = refl

new-holds : (a : ℕ) (k : Key) → holds_by no_table a k ≡ false
unfolding holds_by slot_for slot_from
new-holds a k = refl

new-used : (slot : ℕ) → is_used no_table slot ≡ false
unfolding is_used
new-used slot =
    ap (λ c. c || list_any (λ w. is_some (view_for no_table w slot).known) (below 8)) (below-none (λ a. is_held (hold_for no_table a slot)) 128 (λ a. ap is_held (new-hold a slot)))
    ∙ below-none (λ w. is_some (view_for no_table w slot).known) 8 (λ w. ap (λ v. is_some v.known) (new-view w slot))

new-differs : (w slot : ℕ) → differs_for no_table w slot ≡ false
unfolding differs_for
new-differs w slot = ap (λ v. view_differs v (total_for no_table slot)) (new-view w slot) ∙ ap (view_differs no_view) (none-total no_table slot (λ a. new-limit a slot))

new-pairs : pairs_in no_table ≡ 0
unfolding pairs_in
new-pairs = refl

nobody : (ps : List (ℕ × Key)) → ((a : ℕ) (k : Key) → list_any (λ q. is_pair a k q.0 q.1) ps ≡ holds_by no_table a k) → length ps ≡ 0
nobody [] h = refl
nobody (p ∷ ps) h = absurd (true-false (sym (or-left (is_pair p.0 p.1 p.0 p.1) (list_any (λ q. is_pair p.0 p.1 q.0 q.1) ps) (pair_eq-same p)) ∙ h p.0 p.1 ∙ new-holds p.0 p.1))

pub new-sound : IsSound no_table
unfolding EachOnce
new-sound = record {
  found = λ slot k e. absurd (some-none k (sym e ∙ new-key slot));
  used = λ slot. ap is_some (new-key slot) ∙ sym (new-used slot);
  agents = λ a slot m. new-hold a slot;
  watchers = λ w slot m. new-view w slot;
  ordered = λ a slot. ap (λ xs. has xs slot) (new-order a) ∙ sym (ap is_subscribed (new-hold a slot));
  ordered_once = λ a. subst (λ (xs : List ℕ). EachOnce xs) (sym (new-order a)) tt;
  queued = λ w slot l. ap (λ xs. has xs slot) (new-queue w) ∙ sym (new-differs w slot);
  queued_once = λ w l. subst (λ (xs : List ℕ). EachOnce xs) (sym (new-queue w)) tt;
  outdated = λ w slot o. absurd (true-false (sym o ∙ ap (λ v. v.outdated) (new-view w slot)));
  counted = λ ps o m. nobody ps m ∙ sym new-pairs;
}

abbrev new-store : Store
new-store = record {
  names = record { names = []; room = 0 };
  named = 0;
  holdings = record { cells = []; orders = replicate 128 no_order; pairs = 0 };
  kept = replicate 128 no_order;
  viewings = replicate 8 no_viewing;
  agent = 0;
  room = 0;
}

stored-new : IsStored new-store
stored-new = record {
  sound = new-sound;
  holding = holding-new [] (replicate 128 no_order) refl refl;
  limited = λ slot l. absurd (omega (arith, l));
  cells = omega arith;
  watchers = refl;
  views = λ w l. (omega arith, omega arith);
  keepers = refl;
  kept = λ a slot. ap (λ o. has o.list slot) (at-replicate 128 a no_order);
  keep_room = λ a slot t. absurd (true-false (sym t));
  agent = omega arith;
  order_room = omega arith;
  ready = omega arith;
  names_room = omega arith;
  few_pairs = omega arith;
  few_keys = omega arith;
  counted = refl;
}

pub new-stored : (names : NameList) (holdings : Holdings) (kept : List SlotList) (viewings : List Viewing) → (let n : NameList = record { names = []; room = 0 } in names ≡ n) → (let h : Holdings = record { cells = []; orders = replicate 128 no_order; pairs = 0 } in holdings ≡ h) →
    kept ≡ replicate 128 no_order → viewings ≡ replicate 8 no_viewing → (let s : Store = record { names = names; named = 0; holdings = holdings; kept = kept; viewings = viewings; agent = 0; room = 0 } in IsStored s)
new-stored names holdings kept viewings n h k v =
    subst (λ (x : NameList). (let s : Store = record { names = x; named = 0; holdings = holdings; kept = kept; viewings = viewings; agent = 0; room = 0 } in IsStored s)) (sym n)
    (subst (λ (x : Holdings). (let s : Store = record { names = record { names = []; room = 0 }; named = 0; holdings = x; kept = kept; viewings = viewings; agent = 0; room = 0 } in IsStored s)) (sym h)
    (subst (λ (x : List SlotList). (let s : Store = record { names = record { names = []; room = 0 }; named = 0; holdings = record { cells = []; orders = replicate 128 no_order; pairs = 0 }; kept = x; viewings = viewings; agent = 0; room = 0 } in IsStored s)) (sym k)
    (subst (λ (x : List Viewing). (let s : Store = record { names = record { names = []; room = 0 }; named = 0; holdings = record { cells = []; orders = replicate 128 no_order; pairs = 0 }; kept = replicate 128 no_order; viewings = x; agent = 0; room = 0 } in IsStored s)) (sym v) stored-new)))

-- a table without slots stands for the empty moment
pub stands-new : (P T : Type 0) → StandsFor {P = P} {T = T} no_table (λ a k. false) []
unfolding limit_of known lapsed subscribed limit_by holds_by known_by outdated_by slot_for slot_from by_since begun_within keys_at
stands-new P T = record {
  sound = new-sound;
  limits = λ a k. refl;
  held = λ a k. refl;
  orders = λ a. sym (ap (keys_at no_table) (new-order a));
  known = λ w k. refl;
  outdated = λ w k. refl;
  queues = λ w l. sym (ap (keys_at no_table) (new-queue w));
}
