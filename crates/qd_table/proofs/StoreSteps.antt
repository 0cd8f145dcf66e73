-- Each call leaves parts that fit together, and does to the table what it says.
use Rattle.std.proofs.Common.{◌≡◌, ◌⊎◌, ℕ, ◌+◌, ◌-◌, ◌<◌, ◌≤◌, Bool, true, false, ◌&&◌, ◌||◌, not, if◌then◌else◌, nat_eq, Option, Some, None, is_some, List, [], ◌∷◌, ◌++◌, length, slice_set, refl, ap, sym, ◌∙◌, arith, subst}
use Rattle.std.proofs.lemmas.List.{length-set}
use Rattle.qd_scheme.specs.declared.key.Key.{Key}
use Rattle.qd_pend.specs.Slots.{SlotList, has, without}
use Rattle.qd_pend.proofs.ListLaws.{same, equal, has-without, has-without_same}
use Rattle.qd_slots.specs.declared.holds.Hold.{Hold}
use Rattle.qd_slots.specs.declared.holds.Hold.TheVariants.{Free, Kept, Subscribed}
use Rattle.qd_slots.specs.declared.holds.Cell.{Cell}
use Rattle.qd_slots.specs.declared.views.View.{View}
use Rattle.qd_slots.specs.Names.{slot_in, name_at, named_in}
use Rattle.qd_slots.specs.Holds.{no_order, cell_at, order_at, hold_at, total_in, is_subscribed, is_kept, is_held_cell, with_hold, with_limit, with_last, with_less, with_subscription, more_by}
use Rattle.qd_slots.specs.Views.{Viewing, no_viewing, view_at, viewing_at, view_after, view_told, view_differs, queued, with_told, is_known_by, EachSaw, HasSlots}
use Rattle.qd_slots.proofs.HoldLaws.{holding-subscribe}
use Rattle.qd_table.specs.Tables.{slots_in, key_at, slot_for, hold_for, limit_for, order_of, total_for, is_wanted_slot, pairs_in, view_for, queue_of, differs_for, is_used, room_for}
use Rattle.qd_table.specs.Steps.{is_cell, KeepsUsed, IsSubscribed}
use Rattle.qd_table.specs.Stored.{Store, table_of, without_unused, IsStored}
use Rattle.qd_table.proofs.TableLaws.{below-any, apart-numbers}
use Rattle.qd_table.proofs.StandLaws.{total_for-some}
use Rattle.qd_table.proofs.CallSteps.{cell-here, sound-subscribed}
use Rattle.qd_table.proofs.CellLaws.{used-of, total-of}
use Rattle.qd_table.proofs.CellSteps.{at-set, hold-set, limit-set, sizes-set, view-saw, queue-saw}

-- an agent's queue was set
pub order-set : (orders orders' : List SlotList) (a : ℕ) (q : SlotList) (b : ℕ) → a < length orders → orders' ≡ slice_set orders a q → order_at orders' b ≡ (if nat_eq b a then q else order_at orders b)
order-set orders orders' a q b l e = ap (λ os. order_at os b) e ∙ at-set orders a q no_order b l

pub slots-set : (orders orders' : List SlotList) (a : ℕ) (q : SlotList) (b : ℕ) → a < length orders → orders' ≡ slice_set orders a q → q.slots ≡ (order_at orders a).slots → (order_at orders' b).slots ≡ (order_at orders b).slots
slots-set orders orders' a q b l e f =
    ap (λ o. o.slots) (order-set orders orders' a q b l e)
    ∙ (let go : (c : Bool) → nat_eq b a ≡ c → (if c then q else order_at orders b).slots ≡ (order_at orders b).slots =
    elim [ true ↦ λ p. f ∙ ap (λ x. (order_at orders x).slots) (sym (equal b a p)) | false ↦ λ p. refl ] in
    go (nat_eq b a) refl)

pub list-set : (orders orders' : List SlotList) (a : ℕ) (q : SlotList) (b : ℕ) → a < length orders → orders' ≡ slice_set orders a q → (order_at orders' b).list ≡ (if nat_eq b a then q.list else (order_at orders b).list)
list-set orders orders' a q b l e =
    ap (λ o. o.list) (order-set orders orders' a q b l e) ∙ elim (nat_eq b a) as (λ c. (if c then q else order_at orders b).list ≡ (if c then q.list else (order_at orders b).list)) [ true ↦ refl | false ↦ refl ]

last-queued : (hold : Hold) (order : SlotList) (slot : ℕ) → has order.list slot ≡ is_subscribed hold → (with_last hold order slot).list ≡ queued order.list slot true
unfolding queued
last-queued Free order slot e = sym (ap (λ c. if c then order.list else order.list ++ slot ∷ []) e)
last-queued Kept order slot e = sym (ap (λ c. if c then order.list else order.list ++ slot ∷ []) e)
last-queued Subscribed order slot e = sym (ap (λ c. if c then order.list else order.list ++ slot ∷ []) e)

last-slots : (hold : Hold) (order : SlotList) (slot : ℕ) → (with_last hold order slot).slots ≡ order.slots
last-slots Free order slot = refl
last-slots Kept order slot = refl
last-slots Subscribed order slot = refl

view-kept : (v : View) (total : Option ℕ) → is_some total ≡ true → view_after v total ≡ v
view-kept v total e =
    ap (λ c. let x : View = record { known = v.known; outdated = v.outdated || (is_some v.known && not c) } in x) e
    ∙ ap (λ b. let x : View = record { known = v.known; outdated = b } in x) (plain v.outdated (is_some v.known))
  where
    plain : (p q : Bool) → (p || (q && false)) ≡ p
    plain true q = refl
    plain false true = refl
    plain false false = refl

-- the slot keeps its key as long as it is used
pub keeps-used : (s s' : Store) (slot : ℕ) → slot < length s.names.names → length (cell_at s'.holdings.cells slot).holds ≡ 128 → length s'.viewings ≡ 8 → s'.names.names ≡ without_unused s.names.names s'.holdings.cells s'.viewings slot → KeepsUsed (table_of s) slot (table_of s')
unfolding key_at
keeps-used s s' slot l full len e i =
    ap (λ ns. name_at ns i) e
    ∙ ap (λ c. name_at (if c then s.names.names else slice_set s.names.names slot None) i) (sym (used-of s' slot full len))
    ∙ (let go : (c : Bool) → name_at (if c then s.names.names else slice_set s.names.names slot None) i ≡ (if nat_eq i slot && not c then None else name_at s.names.names i) =
    elim [
      | true ↦ sym (ap (λ c. if c then None else name_at s.names.names i) (and-false (nat_eq i slot)))
      | false ↦ at-set s.names.names slot None None i l ∙ ap (λ c. if c then None else name_at s.names.names i) (sym (and-true (nat_eq i slot)))
    ] in
    go (is_used (table_of s') slot))
  where
    and-false : (b : Bool) → (b && false) ≡ false
    and-false true = refl
    and-false false = refl

    and-true : (b : Bool) → (b && true) ≡ b
    and-true true = refl
    and-true false = refl

pub names-length : (names : List (Option Key)) (cells : List Cell) (viewings : List Viewing) (slot : ℕ) → length (without_unused names cells viewings slot) ≡ length names
names-length names cells viewings slot = elim (is_held_cell (cell_at cells slot) || is_known_by viewings slot) as (λ c. length (if c then names else slice_set names slot None) ≡ length names) [ true ↦ refl | false ↦ length-set names slot None ]

-- room for views stays
pub saw-room : (old new : List Viewing) (slot n : ℕ) (total : Option ℕ) → EachSaw slot total old new → HasSlots n old → HasSlots n new
saw-room old new slot n total s h w l =
    subst (λ (v : Viewing). (n ≤ length v.views) × (n ≤ v.queue.slots)) (sym (s.saw w l))
    (let r = h w l in let e = length-set (viewing_at old w).views slot (view_after (view_at (viewing_at old w).views slot) total) in let p = r.0 in (omega (arith, p, e), r.1))

pub told-room : (old new : List Viewing) (u slot n : ℕ) (told total : Option ℕ) → new ≡ slice_set old u (with_told (viewing_at old u) slot told total) → u < length old → HasSlots n old → HasSlots n new
told-room old new u slot n told total e b h w l =
    subst (λ (v : Viewing). (n ≤ length v.views) × (n ≤ v.queue.slots)) (sym (ap (λ vs. viewing_at vs w) e ∙ at-set old u (with_told (viewing_at old u) slot told total) no_viewing w b))
    (elim (nat_eq w u) as (λ c. nat_eq w u ≡ c → (n ≤ length (if c then with_told (viewing_at old u) slot told total else viewing_at old w).views) × (n ≤ (if c then with_told (viewing_at old u) slot told total else viewing_at old w).queue.slots)) [
      | true ↦ λ p. (let q = h u (subst (λ (x : ℕ). x < 8) (equal w u p) l) in let f = length-set (viewing_at old u).views slot (view_told told) in let r = q.0 in (omega (arith, r, f), q.1))
      | false ↦ λ p. h w l
    ] refl)

pub wanted-by-agent : (s : Store) (a slot : ℕ) → a < 128 → is_subscribed (hold_at s.holdings.cells slot a) ≡ true → is_wanted_slot (table_of s) slot ≡ true
unfolding is_wanted_slot hold_for
wanted-by-agent s a slot l h = below-any (λ b. is_subscribed (hold_at s.holdings.cells slot b)) 128 a l h

-- a subscription
pub record Subscribing (s s' : Store) (a : ℕ) (k : Key) (limit slot : ℕ) : Type 0 where
  pub agent : a ≡ s.agent
  pub below : a < 128
  pub found : (slot_in s.names.names k ≡ Some slot) ⊎ ((slot_in s.names.names k ≡ None) × (name_at s.names.names slot ≡ None))
  pub within : slot < length s.names.names
  pub names : s'.names.names ≡ slice_set s.names.names slot (Some k)
  pub holdings : s'.holdings ≡ with_subscription s.holdings a slot limit
  pub kept : s'.kept ≡ slice_set s.kept a (with_less (order_at s.kept a) slot)
  pub saw : EachSaw slot (total_in (cell_at s'.holdings.cells slot)) s.viewings s'.viewings
  pub same_agent : s'.agent ≡ s.agent
  pub more : 0 < s.room
  pub room : s'.room + 1 ≡ s.room
  pub names_room : s.names.room ≤ s'.names.room + 1
  pub named : s'.named ≤ s.named + 1
  pub counted : s'.named ≡ length (named_in s'.names.names)

pub subscribing-step : {s s' : Store} (a : ℕ) (k : Key) (limit slot : ℕ) → IsStored s → Subscribing s s' a k limit slot → IsSubscribed (table_of s) a k limit slot (table_of s')
unfolding slots_in key_at slot_for hold_for limit_for order_of pairs_in view_for queue_of differs_for room_for
subscribing-step {s} {s'} a k limit slot inv h = record {
  found = h.found;
  within = subst (λ (n : ℕ). slot < n) (sym names_len) h.within;
  slots = names_len;
  room = ap (λ n. if nat_eq a n then s'.room else 0) h.same_agent ∙ room_at (nat_eq a s.agent) (let r = h.room in let m = h.more in omega arith);
  pairs = ap (λ x. x.pairs) h.holdings;
  names = λ i. ap (λ ns. name_at ns i) h.names ∙ at-set s.names.names slot (Some k) None i h.within;
  holds = holds;
  limits = limit-set s.holdings.cells s'.holdings.cells slot a limit cell (subst (λ (n : ℕ). a < n) (sym full) h.below) (subst (λ (n : ℕ). a < n) (sym (inv.limited slot cell)) h.below) cells;
  orders = λ b. list-set s.holdings.orders s'.holdings.orders a (with_last (hold_at s.holdings.cells slot a) (order_at s.holdings.orders a) slot) b (subst (λ (n : ℕ). a < n) (sym inv.holding.agents) h.below) (ap (λ x. x.orders) h.holdings)
      ∙ order b (nat_eq b a) refl;
  views = λ w i. saw w i ∙ same_view w i (nat_eq i slot) refl;
  queues = λ w l. queue-saw s.viewings s'.viewings slot (total_in (cell_at s'.holdings.cells slot)) h.saw w l
      ∙ ap (queued (viewing_at s.viewings w).queue.list slot) (ap (λ v. view_differs v (total_in (cell_at s'.holdings.cells slot))) (sym (saw w slot ∙ ap (λ c. if c then view_after (view_at (viewing_at s.viewings w).views slot) (total_in (cell_at s'.holdings.cells slot)) else view_at (viewing_at s.viewings w).views slot) (same slot)))
      ∙ ap (view_differs (view_at (viewing_at s'.viewings w).views slot)) total);
}
  where
    names_len : length s'.names.names ≡ length s.names.names
    names_len = ap length h.names ∙ length-set s.names.names slot (Some k)

    cell : slot < length s.holdings.cells
    cell = let c = inv.cells in let w = h.within in omega arith

    full : length (cell_at s.holdings.cells slot).holds ≡ 128
    full = inv.holding.full slot cell

    cells : s'.holdings.cells ≡ slice_set s.holdings.cells slot (with_limit (with_hold (cell_at s.holdings.cells slot) a Subscribed) a limit)
    cells = ap (λ x. x.cells) h.holdings

    new_full : length (cell_at s'.holdings.cells slot).holds ≡ 128
    new_full = sizes-set (λ c. length c.holds) s.holdings.cells s'.holdings.cells (with_limit (with_hold (cell_at s.holdings.cells slot) a Subscribed) a limit) slot 128 cell cells (length-set (cell_at s.holdings.cells slot).holds a Subscribed) inv.holding.full slot
        (subst (λ (cs : List Cell). slot < length cs) (sym cells) (let e = length-set s.holdings.cells slot (with_limit (with_hold (cell_at s.holdings.cells slot) a Subscribed) a limit) in let c = cell in omega arith))

    new_limited : length (cell_at s'.holdings.cells slot).limits ≡ 128
    new_limited = sizes-set (λ c. length c.limits) s.holdings.cells s'.holdings.cells (with_limit (with_hold (cell_at s.holdings.cells slot) a Subscribed) a limit) slot 128 cell cells (length-set (cell_at s.holdings.cells slot).limits a limit) inv.limited slot
        (subst (λ (cs : List Cell). slot < length cs) (sym cells) (let e = length-set s.holdings.cells slot (with_limit (with_hold (cell_at s.holdings.cells slot) a Subscribed) a limit) in let c = cell in omega arith))

    total : total_in (cell_at s'.holdings.cells slot) ≡ total_for (table_of s') slot
    total = total-of s' slot new_full new_limited

    holds : (b i : ℕ) → hold_at s'.holdings.cells i b ≡ (if is_cell b i a slot then Subscribed else hold_at s.holdings.cells i b)
    holds = hold-set s.holdings.cells s'.holdings.cells (with_limit (with_hold (cell_at s.holdings.cells slot) a Subscribed) a limit) slot a Subscribed cell (subst (λ (n : ℕ). a < n) (sym full) h.below) cells refl

    room_at : (c : Bool) → s'.room ≡ s.room - 1 → (if c then s'.room else 0) ≡ (if c then s.room else 0) - 1
    room_at true e = e
    room_at false e = omega arith

    order : (b : ℕ) (c : Bool) → nat_eq b a ≡ c → (if c then (with_last (hold_at s.holdings.cells slot a) (order_at s.holdings.orders a) slot).list else (order_at s.holdings.orders b).list) ≡ (if c then queued (order_at s.holdings.orders b).list slot true else (order_at s.holdings.orders b).list)
    order b true e = last-queued (hold_at s.holdings.cells slot a) (order_at s.holdings.orders a) slot (inv.holding.ordered a slot) ∙ ap (λ x. queued (order_at s.holdings.orders x).list slot true) (sym (equal b a e))
    order b false e = refl

    saw : (w i : ℕ) → view_at (viewing_at s'.viewings w).views i ≡ (if nat_eq i slot then view_after (view_at (viewing_at s.viewings w).views slot) (total_in (cell_at s'.holdings.cells slot)) else view_at (viewing_at s.viewings w).views i)
    saw = view-saw s.viewings s'.viewings slot (total_in (cell_at s'.holdings.cells slot)) h.saw inv.watchers (λ w l. let r = inv.views w l in let p = r.0 in let q = h.within in omega arith)

    now_wanted : is_some (total_in (cell_at s'.holdings.cells slot)) ≡ true
    now_wanted = ap is_some total ∙ total_for-some (table_of s') slot ∙ wanted-by-agent s' a slot h.below (ap is_subscribed (holds a slot ∙ ap (λ c. if c then Subscribed else hold_at s.holdings.cells slot a) (cell-here a a slot ∙ same a)))

    same_view : (w i : ℕ) (c : Bool) → nat_eq i slot ≡ c → (if c then view_after (view_at (viewing_at s.viewings w).views slot) (total_in (cell_at s'.holdings.cells slot)) else view_at (viewing_at s.viewings w).views i) ≡ view_at (viewing_at s.viewings w).views i
    same_view w i true e = view-kept (view_at (viewing_at s.viewings w).views slot) (total_in (cell_at s'.holdings.cells slot)) now_wanted ∙ ap (view_at (viewing_at s.viewings w).views) (sym (equal i slot e))
    same_view w i false e = refl

pub subscribing-stored : {s s' : Store} (a : ℕ) (k : Key) (limit slot : ℕ) → IsStored s → Subscribing s s' a k limit slot → IsStored s'
unfolding hold_for
subscribing-stored {s} {s'} a k limit slot inv h = record {
  sound = sound-subscribed (table_of s) (table_of s') a k limit slot inv.sound h.below step;
  holding = holding-subscribe s.holdings.cells s'.holdings.cells s.holdings.orders s'.holdings.orders a slot limit inv.holding cell h.below cells (ap (λ x. x.orders) h.holdings);
  limited = sizes-set (λ c. length c.limits) s.holdings.cells s'.holdings.cells (with_limit (with_hold (cell_at s.holdings.cells slot) a Subscribed) a limit) slot 128 cell cells (length-set (cell_at s.holdings.cells slot).limits a limit) inv.limited;
  cells = (let p = names_len in let q = cells_len in let r = inv.cells in omega arith);
  watchers = h.saw.count ∙ inv.watchers;
  views = subst (λ (n : ℕ). HasSlots n s'.viewings) (sym names_len) (saw-room s.viewings s'.viewings slot (length s.names.names) (total_in (cell_at s'.holdings.cells slot)) h.saw inv.views);
  keepers = ap length h.kept ∙ length-set s.kept a (with_less (order_at s.kept a) slot) ∙ inv.keepers;
  kept = λ b i. ap (λ xs. has xs i) (list-set s.kept s'.kept a (with_less (order_at s.kept a) slot) b in_kept h.kept) ∙ keeps b i (nat_eq b a) (nat_eq i slot) refl refl;
  keep_room = λ b i t. subst (λ (n : ℕ). i < n) (sym (kept_slots b)) (roomy b i (nat_eq b a) (nat_eq i slot) refl refl t);
  agent = subst (λ (n : ℕ). n < 128) (sym h.same_agent) inv.agent;
  order_room = subst (λ (n : ℕ). length s'.names.names ≤ (order_at s'.holdings.orders n).slots) (sym h.same_agent)
      (let e = slots-set s.holdings.orders s'.holdings.orders a (with_last (hold_at s.holdings.cells slot a) (order_at s.holdings.orders a) slot) s.agent (subst (λ (n : ℕ). a < n) (sym inv.holding.agents) h.below) (ap (λ x. x.orders) h.holdings) (last-slots (hold_at s.holdings.cells slot a) (order_at s.holdings.orders a) slot) in
      let r = inv.order_room in let q = names_len in omega arith);
  ready = subst (λ (n : ℕ). length s'.names.names ≤ (order_at s'.kept n).slots) (sym h.same_agent) (let e = kept_slots s.agent in let r = inv.ready in let q = names_len in omega arith);
  names_room = (let r = inv.names_room in let p = h.names_room in let q = h.room in omega arith);
  few_pairs = (let r = inv.few_pairs in let q = h.room in let p = more_pairs in omega arith);
  few_keys = (let r = inv.few_keys in let q = h.room in let p = h.named in omega arith);
  counted = h.counted;
}
  where
    step : IsSubscribed (table_of s) a k limit slot (table_of s')
    step = subscribing-step a k limit slot inv h

    names_len : length s'.names.names ≡ length s.names.names
    names_len = ap length h.names ∙ length-set s.names.names slot (Some k)

    cell : slot < length s.holdings.cells
    cell = let c = inv.cells in let w = h.within in omega arith

    cells : s'.holdings.cells ≡ slice_set s.holdings.cells slot (with_limit (with_hold (cell_at s.holdings.cells slot) a Subscribed) a limit)
    cells = ap (λ x. x.cells) h.holdings

    cells_len : length s'.holdings.cells ≡ length s.holdings.cells
    cells_len = ap length cells ∙ length-set s.holdings.cells slot (with_limit (with_hold (cell_at s.holdings.cells slot) a Subscribed) a limit)

    in_kept : a < length s.kept
    in_kept = subst (λ (n : ℕ). a < n) (sym inv.keepers) h.below

    kept_slots : (b : ℕ) → (order_at s'.kept b).slots ≡ (order_at s.kept b).slots
    kept_slots b = slots-set s.kept s'.kept a (with_less (order_at s.kept a) slot) b in_kept h.kept refl

    more_pairs : s'.holdings.pairs ≤ s.holdings.pairs + 1
    more_pairs = let e = ap (λ x. x.pairs) h.holdings in let m = most (hold_at s.holdings.cells slot a) s.holdings.pairs in omega arith
      where
        most : (hold : Hold) (n : ℕ) → more_by hold n ≤ n + 1
        most Free n = omega arith
        most Kept n = omega arith
        most Subscribed n = omega arith

    keeps : (b i : ℕ) (c d : Bool) → nat_eq b a ≡ c → nat_eq i slot ≡ d → has (if c then without (order_at s.kept a).list slot else (order_at s.kept b).list) i ≡ is_kept (hold_at s'.holdings.cells i b)
    keeps b i true true p q = ap (has (without (order_at s.kept a).list slot)) (equal i slot q) ∙ has-without_same (order_at s.kept a).list slot ∙ sym (ap is_kept (step.holds b i ∙ both p q))
      where
        both : nat_eq b a ≡ true → nat_eq i slot ≡ true → (if is_cell b i a slot then Subscribed else hold_at s.holdings.cells i b) ≡ Subscribed
        both x y = ap (λ c. if c && nat_eq i slot then Subscribed else hold_at s.holdings.cells i b) x ∙ ap (λ c. if c then Subscribed else hold_at s.holdings.cells i b) y
    keeps b i true false p q = has-without (order_at s.kept a).list slot i (λ e. apart-numbers i slot q (sym e)) ∙ ap (λ x. has (order_at s.kept x).list i) (sym (equal b a p)) ∙ inv.kept b i ∙ sym (ap is_kept (step.holds b i ∙ ap (λ c. if c && nat_eq i slot then Subscribed else hold_at s.holdings.cells i b) p ∙ ap (λ c. if c then Subscribed else hold_at s.holdings.cells i b) q))
    keeps b i false d p q = inv.kept b i ∙ sym (ap is_kept (step.holds b i ∙ ap (λ c. if c && nat_eq i slot then Subscribed else hold_at s.holdings.cells i b) p))

    roomy : (b i : ℕ) (c d : Bool) → nat_eq b a ≡ c → nat_eq i slot ≡ d → is_subscribed (hold_at s'.holdings.cells i b) ≡ true → i < (order_at s.kept b).slots
    roomy b i true true p q t = (let e = equal b a p ∙ h.agent in let f = equal i slot q in let r = inv.ready in let w = h.within in
        subst (λ (n : ℕ). n < (order_at s.kept b).slots) (sym f) (subst (λ (n : ℕ). slot < (order_at s.kept n).slots) (sym e) (omega (arith, r, w))))
    roomy b i true false p q t = inv.keep_room b i (sym (ap is_subscribed (step.holds b i ∙ ap (λ c. if c && nat_eq i slot then Subscribed else hold_at s.holdings.cells i b) p ∙ ap (λ c. if c then Subscribed else hold_at s.holdings.cells i b) q)) ∙ t)
    roomy b i false d p q t = inv.keep_room b i (sym (ap is_subscribed (step.holds b i ∙ ap (λ c. if c && nat_eq i slot then Subscribed else hold_at s.holdings.cells i b) p)) ∙ t)
