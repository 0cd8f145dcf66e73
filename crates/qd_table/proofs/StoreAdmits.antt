-- What is judged and reserved leaves a table as it was, with more room.
use Rattle.std.proofs.Common.{◌≡◌, ◌⊎◌, inl, inr, ℕ, zero, suc, ◌+◌, ◌-◌, ◌^◌, ◌<◌, ◌≤◌, if◌then◌else◌, Some, None, List, ◌∷◌, ◌++◌, length, slice_index, refl, ap, sym, ◌∙◌, arith, subst}
use Rattle.std.proofs.lemmas.List.{length-append, get_or_past, get_or_append_left, get_or-append_right}
use Rattle.qd_pend.specs.Slots.{has}
use Rattle.qd_slots.specs.declared.holds.Hold.TheVariants.{Free}
use Rattle.qd_slots.specs.declared.holds.Cell.{Cell}
use Rattle.qd_slots.specs.declared.views.View.{View}
use Rattle.qd_slots.specs.Names.{NameList, slot_in, name_at, nones, IsGrown, named_in}
use Rattle.qd_slots.specs.Holds.{no_cell, free_cell, free_cells, cell_at, order_at, hold_at, hold_in, limit_in, is_subscribed, is_kept, IsHolding, IsRoomier}
use Rattle.qd_slots.specs.Kept.{KeepsRoom}
use Rattle.qd_slots.specs.Views.{Viewing, no_viewing, no_view, no_views, view_at, viewing_at, HasSlots, EachWider}
use Rattle.qd_slots.proofs.NameLaws.{below-or-not, slot_in-grown, name_at-grown, named_in-grown}
use Rattle.qd_slots.proofs.HoldLaws.{free-at, length-free, hold_at-free}
use Rattle.qd_table.specs.Tables.{slots_in, key_at, slot_for, hold_for, limit_for, order_of, pairs_in, view_for, queue_of}
use Rattle.qd_table.specs.Steps.{IsSame}
use Rattle.qd_table.specs.Stored.{Store, table_of, IsStored}
use Rattle.qd_table.proofs.CallSteps.{sound-same}

-- free cells were added
size-free : (f : Cell → ℕ) (cells : List Cell) (n m : ℕ) → f free_cell ≡ m → ((i : ℕ) → i < length cells → f (cell_at cells i) ≡ m) → (i : ℕ) → i < length (cells ++ free_cells n) → f (cell_at (cells ++ free_cells n) i) ≡ m
size-free f cells n m e h i w = elim (below-or-not i (length cells)) [
  | inl l ↦ ap f (get_or_append_left cells (free_cells n) no_cell i l) ∙ h i l
  | inr g ↦ ap f (get_or-append_right cells (free_cells n) (length cells) i no_cell refl g ∙ free-at n (i - length cells) (let l = length-append cells (free_cells n) in let k = length-free n in omega arith)) ∙ e
]

no-limit : (cell : Cell) (b : ℕ) → hold_in cell b ≡ Free → limit_in cell b ≡ None
no-limit cell b e = ap (λ hold. if is_subscribed hold then Some (slice_index cell.limits b) else None) e

limit-free : (cells : List Cell) (n b i : ℕ) → limit_in (cell_at (cells ++ free_cells n) i) b ≡ limit_in (cell_at cells i) b
limit-free cells n b i = elim (below-or-not i (length cells)) [
  | inl l ↦ ap (λ c. limit_in c b) (get_or_append_left cells (free_cells n) no_cell i l)
  | inr g ↦ no-limit (cell_at (cells ++ free_cells n) i) b (hold_at-free cells n i b ∙ ap (λ c. hold_in c b) (get_or_past cells i no_cell g)) ∙ sym (no-limit (cell_at cells i) b (ap (λ c. hold_in c b) (get_or_past cells i no_cell g)))
]

-- slots of which nothing is known were added
none-known : (n i : ℕ) → view_at (no_views n) i ≡ no_view
unfolding no_views
none-known zero i = refl
none-known (suc n) zero = refl
none-known (suc n) (suc i) = none-known n i

view-wider : (views : List View) (n i : ℕ) → view_at (views ++ no_views n) i ≡ view_at views i
view-wider views n i = elim (below-or-not i (length views)) [
  | inl l ↦ get_or_append_left views (no_views n) no_view i l
  | inr g ↦ get_or-append_right views (no_views n) (length views) i no_view refl g ∙ none-known n (i - length views) ∙ sym (get_or_past views i no_view g)
]

pub wider-slots : (n : ℕ) (old new : List Viewing) → EachWider old new → HasSlots n old → HasSlots n new
wider-slots n old new h r w l =
    let v = h.wider w l in
    let room = r w l in
    let p = room.0 in let q = room.1 in let s = v.slots in
    let e = ap length v.views.1 ∙ length-append (viewing_at old w).views (no_views v.views.0) in
    (omega (arith, p, e), omega (arith, q, s))

-- what a reservation leaves
pub record Reserving (s s' : Store) : Type 0 where
  pub names : IsGrown s.names.names s'.names.names
  pub holds : IsRoomier s.holdings s'.holdings
  pub holding : IsHolding s'.holdings.cells s'.holdings.orders
  pub kept : KeepsRoom s.kept s'.kept
  pub watchers : EachWider s.viewings s'.viewings
  pub named : s'.named ≡ s.named

pub reserving-same : {s s' : Store} → IsStored s → Reserving s s' → IsSame (table_of s) (table_of s')
unfolding slots_in key_at slot_for hold_for limit_for order_of pairs_in view_for queue_of
reserving-same {s} {s'} inv h = record {
  slots = (let e = ap length h.names.1 ∙ length-append s.names.names (nones h.names.0) in omega arith);
  names = λ i. ap (λ ns. name_at ns i) h.names.1 ∙ name_at-grown s.names.names h.names.0 i;
  finds = λ k. ap (λ ns. slot_in ns k) h.names.1 ∙ slot_in-grown s.names.names h.names.0 k;
  holds = λ b i. ap (λ cs. hold_at cs i b) h.holds.cells.1 ∙ hold_at-free s.holdings.cells h.holds.cells.0 i b;
  limits = λ b i. ap (λ cs. limit_in (cell_at cs i) b) h.holds.cells.1 ∙ limit-free s.holdings.cells h.holds.cells.0 b i;
  orders = h.holds.lists;
  pairs = h.holds.pairs;
  views = λ w i. views w i (below-or-not w 8);
  queues = λ w. queues w (below-or-not w 8);
}
  where
    both-past : (w : ℕ) → 8 ≤ w → viewing_at s'.viewings w ≡ viewing_at s.viewings w
    both-past w m = let c = h.watchers.count in let e = inv.watchers in get_or_past s'.viewings w no_viewing (omega (arith, c, e, m)) ∙ sym (get_or_past s.viewings w no_viewing (omega (arith, e, m)))

    views : (w i : ℕ) → (w < 8) ⊎ (8 ≤ w) → view_at (viewing_at s'.viewings w).views i ≡ view_at (viewing_at s.viewings w).views i
    views w i (inl l) = let v = h.watchers.wider w l in ap (λ vs. view_at vs i) v.views.1 ∙ view-wider (viewing_at s.viewings w).views v.views.0 i
    views w i (inr m) = ap (λ v. view_at v.views i) (both-past w m)

    queues : (w : ℕ) → (w < 8) ⊎ (8 ≤ w) → (viewing_at s'.viewings w).queue.list ≡ (viewing_at s.viewings w).queue.list
    queues w (inl l) = (h.watchers.wider w l).list
    queues w (inr m) = ap (λ v. v.queue.list) (both-past w m)

-- the room that is there then
pub record HasRoom (s : Store) : Type 0 where
  pub agent : s.agent < 128
  pub cells : length s.names.names ≤ length s.holdings.cells
  pub views : HasSlots (length s.names.names) s.viewings
  pub order_room : length s.names.names ≤ (order_at s.holdings.orders s.agent).slots
  pub ready : length s.names.names ≤ (order_at s.kept s.agent).slots
  pub names_room : s.room ≤ s.names.room
  pub few_pairs : s.holdings.pairs + s.room < 2 ^ 31
  pub few_keys : s.named + s.room < 2 ^ 31

pub reserving-stored : {s s' : Store} → IsStored s → Reserving s s' → HasRoom s' → IsStored s'
unfolding hold_for
reserving-stored {s} {s'} inv h r = record {
  sound = sound-same (table_of s) (table_of s') inv.sound (reserving-same inv h);
  holding = h.holding;
  limited = λ i l. subst (λ (cs : List Cell). length (cell_at cs i).limits ≡ 128) (sym h.holds.cells.1)
      (size-free (λ c. length c.limits) s.holdings.cells h.holds.cells.0 128 refl inv.limited i (subst (λ (cs : List Cell). i < length cs) h.holds.cells.1 l));
  cells = r.cells;
  watchers = h.watchers.count ∙ inv.watchers;
  views = r.views;
  keepers = h.kept.count ∙ inv.keepers;
  kept = λ a i. ap (λ xs. has xs i) (h.kept.lists a) ∙ inv.kept a i ∙ sym (ap is_kept (hold a i));
  keep_room = λ a i t. (let k = inv.keep_room a i (sym (ap is_subscribed (hold a i)) ∙ t) in let m = h.kept.slots a in omega (arith, k, m));
  agent = r.agent;
  order_room = r.order_room;
  ready = r.ready;
  names_room = r.names_room;
  few_pairs = r.few_pairs;
  few_keys = r.few_keys;
  counted = h.named ∙ inv.counted ∙ sym (ap (λ ns. length (named_in ns)) h.names.1 ∙ ap length (named_in-grown s.names.names h.names.0));
}
  where
    hold : (a i : ℕ) → hold_at s'.holdings.cells i a ≡ hold_at s.holdings.cells i a
    hold a i = ap (λ cs. hold_at cs i a) h.holds.cells.1 ∙ hold_at-free s.holdings.cells h.holds.cells.0 i a

-- after a refusal for want of memory the room is as before
pub refused-room : {s s' : Store} → IsStored s → Reserving s s' → s'.names ≡ s.names → s'.agent ≡ s.agent → s'.room ≡ s.room → HasRoom s'
refused-room {s} {s'} inv h names agent room = record {
  agent = subst (λ (n : ℕ). n < 128) (sym agent) inv.agent;
  cells = (let e = ap (λ ns. length ns.names) names in let f = ap length h.holds.cells.1 ∙ length-append s.holdings.cells (free_cells h.holds.cells.0) in let c = inv.cells in omega arith);
  views = subst (λ (ns : NameList). HasSlots (length ns.names) s'.viewings) (sym names) (wider-slots (length s.names.names) s.viewings s'.viewings h.watchers inv.views);
  order_room = subst (λ (n : ℕ). length s'.names.names ≤ (order_at s'.holdings.orders n).slots) (sym agent) (let e = ap (λ ns. length ns.names) names in let m = h.holds.slots s.agent in let c = inv.order_room in omega arith);
  ready = subst (λ (n : ℕ). length s'.names.names ≤ (order_at s'.kept n).slots) (sym agent) (let e = ap (λ ns. length ns.names) names in let m = h.kept.slots s.agent in let c = inv.ready in omega arith);
  names_room = (let e = ap (λ ns. ns.room) names in let c = inv.names_room in omega (arith, room, e, c));
  few_pairs = (let e = h.holds.pairs in let c = inv.few_pairs in omega (arith, room, e, c));
  few_keys = (let e = h.named in let c = inv.few_keys in omega (arith, room, e, c));
}
