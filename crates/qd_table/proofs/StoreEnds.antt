-- The ends of subscriptions, what is let go and what is told, in the parts of a table.
use Rattle.std.proofs.Common.{◌≡◌, ℕ, ◌-◌, ◌<◌, ◌≤◌, Bool, true, false, ◌&&◌, ◌||◌, not, if◌then◌else◌, nat_eq, Option, Some, None, List, [], ◌∷◌, ◌++◌, length, slice_index, slice_set, refl, ap, sym, ◌∙◌, arith, subst}
use Rattle.std.proofs.lemmas.List.{length-set}
use Rattle.std.proofs.Math.Bool.{or-false}
use Rattle.qd_scheme.specs.declared.key.Key.{Key}
use Rattle.qd_pend.specs.Slots.{SlotList, has, without}
use Rattle.qd_pend.proofs.ListLaws.{same, equal, has-without, has-without_same, has-push}
use Rattle.qd_slots.specs.declared.holds.Hold.{Hold}
use Rattle.qd_slots.specs.declared.holds.Hold.TheVariants.{Free, Kept, Subscribed}
use Rattle.qd_slots.specs.declared.holds.Cell.{Cell}
use Rattle.qd_slots.specs.Names.{slot_in, name_at, named_in}
use Rattle.qd_slots.specs.Holds.{Holdings, cell_at, order_at, hold_at, hold_in, limit_in, total_in, is_subscribed, is_kept, is_held_cell, after_end, with_hold, with_less, with_end, without_kept, less_by, IsHolding}
use Rattle.qd_slots.specs.Kept.{with_more}
use Rattle.qd_slots.specs.Views.{Viewing, view_at, viewing_at, view_after, view_told, view_differs, queued, queued_again, with_told, is_known_by, EachSaw, HasSlots}
use Rattle.qd_slots.proofs.HoldLaws.{holding-end, holding-let_go}
use Rattle.qd_table.specs.Tables.{Table, slots_in, key_at, slot_for, hold_for, limit_for, order_of, total_for, pairs_in, view_for, queue_of, differs_for, total_to_tell, is_used, room_for}
use Rattle.qd_table.specs.Steps.{is_cell, IsSame, IsEnded, IsLetGo, IsTold}
use Rattle.qd_table.specs.Sound.{IsSound}
use Rattle.qd_table.specs.Stored.{Store, table_of, without_unused, kept_if, IsStored}
use Rattle.qd_table.proofs.TableLaws.{unused, unused-hold, or-right, true-false, apart-numbers, key_at-subscribed}
use Rattle.qd_table.proofs.CallSteps.{sound-ended, sound-let_go, sound-told, sound-same}
use Rattle.qd_table.proofs.CellLaws.{total-of, slot-within}
use Rattle.qd_table.proofs.CellSteps.{hold-set, limit-ended, sizes-set, view-saw, queue-saw, view-told, queue-told, name-again}
use Rattle.qd_table.proofs.StoreSteps.{slots-set, list-set, keeps-used, names-length, saw-room, told-room}

-- a cell keeps its sizes where a hold is set
hold-sizes : (s s' : Store) (a slot : ℕ) (hold : Hold) → IsStored s → slot < length s.holdings.cells → s'.holdings.cells ≡ slice_set s.holdings.cells slot (with_hold (cell_at s.holdings.cells slot) a hold) →
    (length s'.holdings.cells ≡ length s.holdings.cells) × ((i : ℕ) → i < length s'.holdings.cells → length (cell_at s'.holdings.cells i).holds ≡ 128) × ((i : ℕ) → i < length s'.holdings.cells → length (cell_at s'.holdings.cells i).limits ≡ 128)
hold-sizes s s' a slot hold inv l e = (
  ap length e ∙ length-set s.holdings.cells slot (with_hold (cell_at s.holdings.cells slot) a hold),
  sizes-set (λ c. length c.holds) s.holdings.cells s'.holdings.cells (with_hold (cell_at s.holdings.cells slot) a hold) slot 128 l e (length-set (cell_at s.holdings.cells slot).holds a hold) inv.holding.full,
  sizes-set (λ c. length c.limits) s.holdings.cells s'.holdings.cells (with_hold (cell_at s.holdings.cells slot) a hold) slot 128 l e refl inv.limited,
)

-- the parts after a call that may free the slot
pub record Freeing (s s' : Store) (slot : ℕ) : Type 0 where
  pub names : s'.names.names ≡ without_unused s.names.names s'.holdings.cells s'.viewings slot
  pub agent : s'.agent ≡ s.agent
  pub room : s'.room ≡ s.room
  pub names_room : s'.names.room ≡ s.names.room
  pub named : s'.named ≤ s.named
  pub counted : s'.named ≡ length (named_in s'.names.names)

freed-room : (s s' : Store) (slot b : ℕ) → Freeing s s' slot → room_for (table_of s') b ≡ room_for (table_of s) b
unfolding room_for
freed-room s s' slot b f = ap (λ n. if nat_eq b n then s'.room else 0) f.agent ∙ ap (λ n. if nat_eq b s.agent then n else 0) f.room

freed-length : (s s' : Store) (slot : ℕ) → Freeing s s' slot → length s'.names.names ≡ length s.names.names
freed-length s s' slot f = ap length f.names ∙ names-length s.names.names s'.holdings.cells s'.viewings slot

-- the end of a subscription
pub record Ending (s s' : Store) (a slot : ℕ) (keep : Bool) : Type 0 where
  pub subscribed : is_subscribed (hold_for (table_of s) a slot) ≡ true
  pub below : a < 128
  pub holdings : s'.holdings ≡ with_end s.holdings a slot keep
  pub kept : s'.kept ≡ kept_if s.kept a slot keep
  pub saw : EachSaw slot (total_in (cell_at s'.holdings.cells slot)) s.viewings s'.viewings
  pub freed : Freeing s s' slot

none-after : (keep : Bool) → is_subscribed (after_end keep) ≡ false
none-after true = refl
none-after false = refl

pub ending-step : {s s' : Store} (a slot : ℕ) (keep : Bool) → IsStored s → Ending s s' a slot keep → IsEnded (table_of s) a slot keep (table_of s')
unfolding slots_in hold_for limit_for order_of pairs_in view_for queue_of differs_for
ending-step {s} {s'} a slot keep inv h = record {
  slots = freed-length s s' slot h.freed;
  room = λ b. freed-room s s' slot b h.freed;
  pairs = ap (λ x. x.pairs) h.holdings;
  names = keeps-used s s' slot within full (h.saw.count ∙ inv.watchers) h.freed.names;
  holds = hold-set s.holdings.cells s'.holdings.cells (with_hold (cell_at s.holdings.cells slot) a (after_end keep)) slot a (after_end keep) cell in_cell cells refl;
  limits = limit-ended s.holdings.cells s'.holdings.cells slot a (after_end keep) cell in_cell (none-after keep) cells;
  orders = λ b. list-set s.holdings.orders s'.holdings.orders a (with_less (order_at s.holdings.orders a) slot) b (subst (λ (n : ℕ). a < n) (sym inv.holding.agents) h.below) (ap (λ x. x.orders) h.holdings) ∙ order b (nat_eq b a) refl;
  views = λ w i. saw w i ∙ view w i (nat_eq i slot) refl;
  queues = λ w l. queue-saw s.viewings s'.viewings slot (total_in (cell_at s'.holdings.cells slot)) h.saw w l
      ∙ ap (queued (viewing_at s.viewings w).queue.list slot) (ap (λ v. view_differs v (total_in (cell_at s'.holdings.cells slot))) (sym (saw w slot ∙ ap (λ c. if c then view_after (view_at (viewing_at s.viewings w).views slot) (total_in (cell_at s'.holdings.cells slot)) else view_at (viewing_at s.viewings w).views slot) (same slot)))
      ∙ ap (view_differs (view_at (viewing_at s'.viewings w).views slot)) total);
}
  where
    within : slot < length s.names.names
    within = slot-within inv a slot h.subscribed

    cell : slot < length s.holdings.cells
    cell = let c = inv.cells in let w = within in omega arith

    in_cell : a < length (cell_at s.holdings.cells slot).holds
    in_cell = subst (λ (n : ℕ). a < n) (sym (inv.holding.full slot cell)) h.below

    cells : s'.holdings.cells ≡ slice_set s.holdings.cells slot (with_hold (cell_at s.holdings.cells slot) a (after_end keep))
    cells = ap (λ x. x.cells) h.holdings

    sizes : (length s'.holdings.cells ≡ length s.holdings.cells) × ((i : ℕ) → i < length s'.holdings.cells → length (cell_at s'.holdings.cells i).holds ≡ 128) × ((i : ℕ) → i < length s'.holdings.cells → length (cell_at s'.holdings.cells i).limits ≡ 128)
    sizes = hold-sizes s s' a slot (after_end keep) inv cell cells

    new_cell : slot < length s'.holdings.cells
    new_cell = subst (λ (n : ℕ). slot < n) (sym sizes.0) cell

    full : length (cell_at s'.holdings.cells slot).holds ≡ 128
    full = sizes.1 slot new_cell

    total : total_in (cell_at s'.holdings.cells slot) ≡ total_for (table_of s') slot
    total = total-of s' slot full (sizes.2 slot new_cell)

    saw : (w i : ℕ) → view_at (viewing_at s'.viewings w).views i ≡ (if nat_eq i slot then view_after (view_at (viewing_at s.viewings w).views slot) (total_in (cell_at s'.holdings.cells slot)) else view_at (viewing_at s.viewings w).views i)
    saw = view-saw s.viewings s'.viewings slot (total_in (cell_at s'.holdings.cells slot)) h.saw inv.watchers (λ w l. let r = inv.views w l in let p = r.0 in let q = within in omega arith)

    view : (w i : ℕ) (c : Bool) → nat_eq i slot ≡ c → (if c then view_after (view_at (viewing_at s.viewings w).views slot) (total_in (cell_at s'.holdings.cells slot)) else view_at (viewing_at s.viewings w).views i) ≡ (if c then view_after (view_at (viewing_at s.viewings w).views i) (total_for (table_of s') slot) else view_at (viewing_at s.viewings w).views i)
    view w i true e = ap (view_after (view_at (viewing_at s.viewings w).views slot)) total ∙ ap (λ j. view_after (view_at (viewing_at s.viewings w).views j) (total_for (table_of s') slot)) (sym (equal i slot e))
    view w i false e = refl

    order : (b : ℕ) (c : Bool) → nat_eq b a ≡ c → (if c then without (order_at s.holdings.orders a).list slot else (order_at s.holdings.orders b).list) ≡ (if c then without (order_at s.holdings.orders b).list slot else (order_at s.holdings.orders b).list)
    order b true e = ap (λ x. without (order_at s.holdings.orders x).list slot) (sym (equal b a e))
    order b false e = refl

if-list : (keep : Bool) (kept : List SlotList) (a slot b : ℕ) → a < length kept → (order_at (kept_if kept a slot keep) b).list ≡ (if keep && nat_eq b a then (order_at kept b).list ++ slot ∷ [] else (order_at kept b).list)
if-list true kept a slot b l =
    list-set kept (slice_set kept a (with_more (order_at kept a) slot)) a (with_more (order_at kept a) slot) b l refl
    ∙ (let go : (c : Bool) → nat_eq b a ≡ c → (if c then (order_at kept a).list ++ slot ∷ [] else (order_at kept b).list) ≡ (if c then (order_at kept b).list ++ slot ∷ [] else (order_at kept b).list) =
    elim [ true ↦ λ e. ap (λ x. (order_at kept x).list ++ slot ∷ []) (sym (equal b a e)) | false ↦ λ e. refl ] in
    go (nat_eq b a) refl)
if-list false kept a slot b l = refl

if-slots : (keep : Bool) (kept : List SlotList) (a slot b : ℕ) → a < length kept → (order_at (kept_if kept a slot keep) b).slots ≡ (order_at kept b).slots
if-slots true kept a slot b l = slots-set kept (slice_set kept a (with_more (order_at kept a) slot)) a (with_more (order_at kept a) slot) b l refl refl
if-slots false kept a slot b l = refl

if-length : (keep : Bool) (kept : List SlotList) (a slot : ℕ) → length (kept_if kept a slot keep) ≡ length kept
if-length true kept a slot = length-set kept a (with_more (order_at kept a) slot)
if-length false kept a slot = refl

pub ending-stored : {s s' : Store} (a slot : ℕ) (keep : Bool) → IsStored s → Ending s s' a slot keep → IsStored s'
unfolding hold_for
ending-stored {s} {s'} a slot keep inv h = record {
  sound = sound-ended (table_of s) (table_of s') a slot keep inv.sound h.subscribed key.0 key.1 step;
  holding = holding-end s.holdings.cells s'.holdings.cells s.holdings.orders s'.holdings.orders a slot (after_end keep) inv.holding cell h.below (none-after keep) cells (ap (λ x. x.orders) h.holdings);
  limited = sizes.2;
  cells = (let p = names_len in let q = sizes.0 in let r = inv.cells in omega arith);
  watchers = h.saw.count ∙ inv.watchers;
  views = subst (λ (n : ℕ). HasSlots n s'.viewings) (sym names_len) (saw-room s.viewings s'.viewings slot (length s.names.names) (total_in (cell_at s'.holdings.cells slot)) h.saw inv.views);
  keepers = ap length h.kept ∙ if-length keep s.kept a slot ∙ inv.keepers;
  kept = λ b i. ap (λ ks. has (order_at ks b).list i) h.kept ∙ ap (λ xs. has xs i) (if-list keep s.kept a slot b in_kept) ∙ keeps keep b i (nat_eq b a) (nat_eq i slot) refl refl refl;
  keep_room = λ b i t. subst (λ (n : ℕ). i < n) (sym (kept_slots b)) (roomy b i (nat_eq b a) (nat_eq i slot) refl refl t);
  agent = subst (λ (n : ℕ). n < 128) (sym h.freed.agent) inv.agent;
  order_room = subst (λ (n : ℕ). length s'.names.names ≤ (order_at s'.holdings.orders n).slots) (sym h.freed.agent)
      (let e = slots-set s.holdings.orders s'.holdings.orders a (with_less (order_at s.holdings.orders a) slot) s.agent (subst (λ (n : ℕ). a < n) (sym inv.holding.agents) h.below) (ap (λ x. x.orders) h.holdings) refl in
      let r = inv.order_room in let q = names_len in omega arith);
  ready = subst (λ (n : ℕ). length s'.names.names ≤ (order_at s'.kept n).slots) (sym h.freed.agent) (let e = kept_slots s.agent in let r = inv.ready in let q = names_len in omega arith);
  names_room = (let r = inv.names_room in let p = h.freed.names_room in let q = h.freed.room in omega arith);
  few_pairs = (let r = inv.few_pairs in let q = h.freed.room in let p = fewer_pairs in omega arith);
  few_keys = (let r = inv.few_keys in let q = h.freed.room in let p = h.freed.named in omega arith);
  counted = h.freed.counted;
}
  where
    step : IsEnded (table_of s) a slot keep (table_of s')
    step = ending-step a slot keep inv h

    key : (k : Key) × (key_at (table_of s) slot ≡ Some k)
    key = key_at-subscribed (table_of s) a slot inv.sound h.subscribed

    cell : slot < length s.holdings.cells
    cell = let c = inv.cells in let w = slot-within inv a slot h.subscribed in omega arith

    cells : s'.holdings.cells ≡ slice_set s.holdings.cells slot (with_hold (cell_at s.holdings.cells slot) a (after_end keep))
    cells = ap (λ x. x.cells) h.holdings

    sizes : (length s'.holdings.cells ≡ length s.holdings.cells) × ((i : ℕ) → i < length s'.holdings.cells → length (cell_at s'.holdings.cells i).holds ≡ 128) × ((i : ℕ) → i < length s'.holdings.cells → length (cell_at s'.holdings.cells i).limits ≡ 128)
    sizes = hold-sizes s s' a slot (after_end keep) inv cell cells

    names_len : length s'.names.names ≡ length s.names.names
    names_len = freed-length s s' slot h.freed

    in_kept : a < length s.kept
    in_kept = subst (λ (n : ℕ). a < n) (sym inv.keepers) h.below

    kept_slots : (b : ℕ) → (order_at s'.kept b).slots ≡ (order_at s.kept b).slots
    kept_slots b = ap (λ ks. (order_at ks b).slots) h.kept ∙ if-slots keep s.kept a slot b in_kept

    fewer_pairs : s'.holdings.pairs ≤ s.holdings.pairs
    fewer_pairs = let e = ap (λ x. x.pairs) h.holdings in let m = fewer keep s.holdings.pairs in omega arith
      where
        fewer : (c : Bool) (n : ℕ) → less_by c n ≤ n
        fewer true n = omega arith
        fewer false n = omega arith

    hold_now : (b i : ℕ) (c d : Bool) → nat_eq b a ≡ c → nat_eq i slot ≡ d → hold_at s'.holdings.cells i b ≡ (if c && d then after_end keep else hold_at s.holdings.cells i b)
    hold_now b i c d p q = step.holds b i ∙ ap (λ x. if x && nat_eq i slot then after_end keep else hold_at s.holdings.cells i b) p ∙ ap (λ x. if c && x then after_end keep else hold_at s.holdings.cells i b) q

    not_kept : is_kept (hold_at s.holdings.cells slot a) ≡ false
    not_kept = apart (hold_at s.holdings.cells slot a) h.subscribed
      where
        apart : (hold : Hold) → is_subscribed hold ≡ true → is_kept hold ≡ false
        apart Free t = refl
        apart Kept t = absurd (true-false (sym t))
        apart Subscribed t = refl

    keeps : (x : Bool) (b i : ℕ) (c d : Bool) → nat_eq b a ≡ c → nat_eq i slot ≡ d → keep ≡ x → has (if x && c then (order_at s.kept b).list ++ slot ∷ [] else (order_at s.kept b).list) i ≡ is_kept (hold_at s'.holdings.cells i b)
    keeps true b i true true p q e = has-push (order_at s.kept b).list slot i ∙ ap (λ y. has (order_at s.kept b).list i || y) q ∙ or-right (has (order_at s.kept b).list i) true refl ∙ sym (ap is_kept (hold_now b i true true p q) ∙ ap (λ y. is_kept (after_end y)) e)
    keeps true b i true false p q e = has-push (order_at s.kept b).list slot i ∙ ap (λ y. has (order_at s.kept b).list i || y) q ∙ or-false (has (order_at s.kept b).list i) ∙ inv.kept b i ∙ sym (ap is_kept (hold_now b i true false p q))
    keeps true b i false d p q e = inv.kept b i ∙ sym (ap is_kept (hold_now b i false d p q))
    keeps false b i true true p q e = inv.kept b i ∙ ap (λ x. is_kept (hold_at s.holdings.cells i x)) (equal b a p) ∙ ap (λ x. is_kept (hold_at s.holdings.cells x a)) (equal i slot q) ∙ not_kept ∙ sym (ap is_kept (hold_now b i true true p q) ∙ ap (λ y. is_kept (after_end y)) e)
    keeps false b i true false p q e = inv.kept b i ∙ sym (ap is_kept (hold_now b i true false p q))
    keeps false b i false d p q e = inv.kept b i ∙ sym (ap is_kept (hold_now b i false d p q))

    roomy : (b i : ℕ) (c d : Bool) → nat_eq b a ≡ c → nat_eq i slot ≡ d → is_subscribed (hold_at s'.holdings.cells i b) ≡ true → i < (order_at s.kept b).slots
    roomy b i true true p q t = absurd (true-false (sym t ∙ ap is_subscribed (hold_now b i true true p q) ∙ none-after keep))
    roomy b i true false p q t = inv.keep_room b i (sym (ap is_subscribed (hold_now b i true false p q)) ∙ t)
    roomy b i false d p q t = inv.keep_room b i (sym (ap is_subscribed (hold_now b i false d p q)) ∙ t)

-- what was kept is let go
pub record LettingGo (s s' : Store) (a slot : ℕ) : Type 0 where
  pub below : a < 128
  pub within : slot < length s.names.names
  pub holdings : s'.holdings ≡ without_kept s.holdings a slot
  pub kept : s'.kept ≡ slice_set s.kept a (with_less (order_at s.kept a) slot)
  pub viewings : s'.viewings ≡ s.viewings
  pub freed : Freeing s s' slot

go-cells : (h : Holdings) (a slot : ℕ) → (without_kept h a slot).cells ≡ (if is_kept (hold_at h.cells slot a) then slice_set h.cells slot (with_hold (cell_at h.cells slot) a Free) else h.cells)
go-cells h a slot = elim (is_kept (hold_at h.cells slot a)) as (λ c. (if c then record { cells = slice_set h.cells slot (with_hold (cell_at h.cells slot) a Free); orders = h.orders; pairs = h.pairs - 1 } else h).cells ≡ (if c then slice_set h.cells slot (with_hold (cell_at h.cells slot) a Free) else h.cells)) [ true ↦ refl | false ↦ refl ]

go-orders : (h : Holdings) (a slot : ℕ) → (without_kept h a slot).orders ≡ h.orders
go-orders h a slot = elim (is_kept (hold_at h.cells slot a)) as (λ c. (if c then record { cells = slice_set h.cells slot (with_hold (cell_at h.cells slot) a Free); orders = h.orders; pairs = h.pairs - 1 } else h).orders ≡ h.orders) [ true ↦ refl | false ↦ refl ]

go-pairs : (h : Holdings) (a slot : ℕ) → (without_kept h a slot).pairs ≡ (if is_kept (hold_at h.cells slot a) then h.pairs - 1 else h.pairs)
go-pairs h a slot = elim (is_kept (hold_at h.cells slot a)) as (λ c. (if c then record { cells = slice_set h.cells slot (with_hold (cell_at h.cells slot) a Free); orders = h.orders; pairs = h.pairs - 1 } else h).pairs ≡ (if c then h.pairs - 1 else h.pairs)) [ true ↦ refl | false ↦ refl ]

go-length : (h : Holdings) (a slot : ℕ) → length (without_kept h a slot).cells ≡ length h.cells
go-length h a slot = ap length (go-cells h a slot) ∙ elim (is_kept (hold_at h.cells slot a)) as (λ c. length (if c then slice_set h.cells slot (with_hold (cell_at h.cells slot) a Free) else h.cells) ≡ length h.cells) [ true ↦ length-set h.cells slot (with_hold (cell_at h.cells slot) a Free) | false ↦ refl ]

no-limit : (cell : Cell) (a : ℕ) → is_kept (hold_in cell a) ≡ true → limit_in cell a ≡ None
no-limit cell a e = ap (λ c. if c then Some (slice_index cell.limits a) else None) (kept-unsubscribed (hold_in cell a) e)
  where
    kept-unsubscribed : (hold : Hold) → is_kept hold ≡ true → is_subscribed hold ≡ false
    kept-unsubscribed Free t = refl
    kept-unsubscribed Kept t = refl
    kept-unsubscribed Subscribed t = absurd (true-false (sym t))

pub letting-step : {s s' : Store} (a slot : ℕ) → IsStored s → LettingGo s s' a slot → IsLetGo (table_of s) a slot (table_of s')
unfolding slots_in hold_for limit_for order_of pairs_in view_for queue_of
letting-step {s} {s'} a slot inv h = record {
  slots = freed-length s s' slot h.freed;
  room = λ b. freed-room s s' slot b h.freed;
  pairs = ap (λ x. x.pairs) h.holdings ∙ go-pairs s.holdings a slot;
  names = keeps-used s s' slot h.within full (ap length h.viewings ∙ inv.watchers) h.freed.names;
  holds = λ b i. ap (λ cs. hold_at cs i b) cells ∙ hold b i (is_kept (hold_at s.holdings.cells slot a)) refl (nat_eq b a) refl (nat_eq i slot) refl;
  limits = λ b i. ap (λ cs. limit_in (cell_at cs i) b) cells ∙ limit b i (is_kept (hold_at s.holdings.cells slot a)) refl (nat_eq b a) refl (nat_eq i slot) refl;
  orders = λ b. ap (λ os. (order_at os b).list) (ap (λ x. x.orders) h.holdings ∙ go-orders s.holdings a slot);
  views = λ w i. ap (λ vs. view_at (viewing_at vs w).views i) h.viewings;
  queues = λ w. ap (λ vs. (viewing_at vs w).queue.list) h.viewings;
}
  where
    cell : slot < length s.holdings.cells
    cell = let c = inv.cells in let w = h.within in omega arith

    in_cell : a < length (cell_at s.holdings.cells slot).holds
    in_cell = subst (λ (n : ℕ). a < n) (sym (inv.holding.full slot cell)) h.below

    cells : s'.holdings.cells ≡ (if is_kept (hold_at s.holdings.cells slot a) then slice_set s.holdings.cells slot (with_hold (cell_at s.holdings.cells slot) a Free) else s.holdings.cells)
    cells = ap (λ x. x.cells) h.holdings ∙ go-cells s.holdings a slot

    full : length (cell_at s'.holdings.cells slot).holds ≡ 128
    full = ap (λ cs. length (cell_at cs slot).holds) cells ∙ elim (is_kept (hold_at s.holdings.cells slot a)) as (λ c. length (cell_at (if c then slice_set s.holdings.cells slot (with_hold (cell_at s.holdings.cells slot) a Free) else s.holdings.cells) slot).holds ≡ 128) [
      | true ↦ sizes-set (λ x. length x.holds) s.holdings.cells (slice_set s.holdings.cells slot (with_hold (cell_at s.holdings.cells slot) a Free)) (with_hold (cell_at s.holdings.cells slot) a Free) slot 128 cell refl (length-set (cell_at s.holdings.cells slot).holds a Free) inv.holding.full slot
          (let e = length-set s.holdings.cells slot (with_hold (cell_at s.holdings.cells slot) a Free) in let c = cell in omega arith)
      | false ↦ inv.holding.full slot cell
    ]

    hold : (b i : ℕ) (k : Bool) → is_kept (hold_at s.holdings.cells slot a) ≡ k → (c : Bool) → nat_eq b a ≡ c → (d : Bool) → nat_eq i slot ≡ d →
        hold_at (if k then slice_set s.holdings.cells slot (with_hold (cell_at s.holdings.cells slot) a Free) else s.holdings.cells) i b ≡ (if (c && d) && is_kept (hold_at s.holdings.cells i b) then Free else hold_at s.holdings.cells i b)
    hold b i true e c p d q = hold-set s.holdings.cells (slice_set s.holdings.cells slot (with_hold (cell_at s.holdings.cells slot) a Free)) (with_hold (cell_at s.holdings.cells slot) a Free) slot a Free cell in_cell refl refl b i
        ∙ ap (λ x. if x && nat_eq i slot then Free else hold_at s.holdings.cells i b) p ∙ ap (λ x. if c && x then Free else hold_at s.holdings.cells i b) q ∙ same_cell c d p q
      where
        same_cell : (x y : Bool) → nat_eq b a ≡ x → nat_eq i slot ≡ y → (if x && y then Free else hold_at s.holdings.cells i b) ≡ (if (x && y) && is_kept (hold_at s.holdings.cells i b) then Free else hold_at s.holdings.cells i b)
        same_cell true true u v = sym (ap (λ z. if z then Free else hold_at s.holdings.cells i b) (ap (λ z. is_kept (hold_at s.holdings.cells i z)) (equal b a u) ∙ ap (λ z. is_kept (hold_at s.holdings.cells z a)) (equal i slot v) ∙ e))
        same_cell true false u v = refl
        same_cell false y u v = refl
    hold b i false e true p true q = sym (ap (λ z. if z then Free else hold_at s.holdings.cells i b) (ap (λ z. is_kept (hold_at s.holdings.cells i z)) (equal b a p) ∙ ap (λ z. is_kept (hold_at s.holdings.cells z a)) (equal i slot q) ∙ e))
    hold b i false e true p false q = refl
    hold b i false e false p d q = refl

    limit : (b i : ℕ) (k : Bool) → is_kept (hold_at s.holdings.cells slot a) ≡ k → (c : Bool) → nat_eq b a ≡ c → (d : Bool) → nat_eq i slot ≡ d →
        limit_in (cell_at (if k then slice_set s.holdings.cells slot (with_hold (cell_at s.holdings.cells slot) a Free) else s.holdings.cells) i) b ≡ limit_in (cell_at s.holdings.cells i) b
    limit b i true e c p d q = limit-ended s.holdings.cells (slice_set s.holdings.cells slot (with_hold (cell_at s.holdings.cells slot) a Free)) slot a Free cell in_cell refl refl b i
        ∙ ap (λ x. if x && nat_eq i slot then None else limit_in (cell_at s.holdings.cells i) b) p ∙ ap (λ x. if c && x then None else limit_in (cell_at s.holdings.cells i) b) q ∙ same_cell c d p q
      where
        same_cell : (x y : Bool) → nat_eq b a ≡ x → nat_eq i slot ≡ y → (if x && y then None else limit_in (cell_at s.holdings.cells i) b) ≡ limit_in (cell_at s.holdings.cells i) b
        same_cell true true u v = sym (no-limit (cell_at s.holdings.cells i) b (ap (λ z. is_kept (hold_at s.holdings.cells i z)) (equal b a u) ∙ ap (λ z. is_kept (hold_at s.holdings.cells z a)) (equal i slot v) ∙ e))
        same_cell true false u v = refl
        same_cell false y u v = refl
    limit b i false e c p d q = refl

-- where the slot has no key, nothing changes
vacant-same : {s s' : Store} (a slot : ℕ) → IsStored s → LettingGo s s' a slot → key_at (table_of s) slot ≡ None → IsLetGo (table_of s) a slot (table_of s') → IsSame (table_of s) (table_of s')
unfolding slots_in key_at slot_for
vacant-same {s} {s'} a slot inv h none step = record {
  slots = (let e = names in let f = ap length e in omega arith);
  names = λ i. ap (λ ns. name_at ns i) names;
  finds = λ k. ap (λ ns. slot_in ns k) names;
  holds = λ b i. step.holds b i ∙ free b i (nat_eq b a) (nat_eq i slot) refl;
  limits = step.limits;
  orders = step.orders;
  pairs = step.pairs ∙ ap (λ hold. if is_kept hold then pairs_in (table_of s) - 1 else pairs_in (table_of s)) (unused-hold (table_of s) a slot inv.sound (unused (table_of s) slot inv.sound none));
  views = step.views;
  queues = step.queues;
}
  where
    names : s'.names.names ≡ s.names.names
    names = h.freed.names ∙ elim (is_held_cell (cell_at s'.holdings.cells slot) || is_known_by s'.viewings slot) as (λ c. (if c then s.names.names else slice_set s.names.names slot None) ≡ s.names.names) [ true ↦ refl | false ↦ name-again s.names.names slot None none ]

    free : (b i : ℕ) (c d : Bool) → nat_eq i slot ≡ d → (if (c && d) && is_kept (hold_for (table_of s) b i) then Free else hold_for (table_of s) b i) ≡ hold_for (table_of s) b i
    free b i c true e = let f = ap (hold_for (table_of s) b) (equal i slot e) ∙ unused-hold (table_of s) b slot inv.sound (unused (table_of s) slot inv.sound none) in
        ap (λ hold. if (c && true) && is_kept hold then Free else hold) f ∙ plain c ∙ sym f
      where
        plain : (x : Bool) → (if (x && true) && false then Free else Free) ≡ Free
        plain true = refl
        plain false = refl
    free b i true false e = refl
    free b i false false e = refl

-- letting go where there is no key leaves all
pub go-nothing : (t : Table) (a slot : ℕ) → IsSound t → key_at t slot ≡ None → IsLetGo t a slot t
go-nothing t a slot s none = record {
  slots = refl;
  room = λ b. refl;
  pairs = sym (ap (λ hold. if is_kept hold then pairs_in t - 1 else pairs_in t) (unused-hold t a slot s (unused t slot s none)));
  names = λ i. name i (nat_eq i slot) refl;
  holds = λ b i. free b i (nat_eq b a) (nat_eq i slot) refl;
  limits = λ b i. refl;
  orders = λ b. refl;
  views = λ w i. refl;
  queues = λ w. refl;
}
  where
    name : (i : ℕ) (c : Bool) → nat_eq i slot ≡ c → key_at t i ≡ (if c && not (is_used t slot) then None else key_at t i)
    name i true e = ap (key_at t) (equal i slot e) ∙ none ∙ sym (ap (λ c. if not c then None else key_at t i) (unused t slot s none))
    name i false e = refl

    free : (b i : ℕ) (c d : Bool) → nat_eq i slot ≡ d → hold_for t b i ≡ (if (c && d) && is_kept (hold_for t b i) then Free else hold_for t b i)
    free b i true true e = let f = ap (hold_for t b) (equal i slot e) ∙ unused-hold t b slot s (unused t slot s none) in f ∙ sym (ap (λ hold. if is_kept hold then Free else hold) f)
    free b i false true e = refl
    free b i true false e = refl
    free b i false false e = refl

pub letting-stored : {s s' : Store} (a slot : ℕ) → IsStored s → LettingGo s s' a slot → (k : Option Key) → key_at (table_of s) slot ≡ k → IsStored s'
unfolding hold_for key_at
letting-stored {s} {s'} a slot inv h k own = record {
  sound = sound_after k own;
  holding = subst (λ (os : List SlotList). IsHolding s'.holdings.cells os) (sym orders) (holding (is_kept (hold_at s.holdings.cells slot a)) refl cells);
  limited = λ i w. limited (is_kept (hold_at s.holdings.cells slot a)) refl cells i w;
  cells = (let p = names_len in let q = cells_len in let r = inv.cells in omega arith);
  watchers = ap length h.viewings ∙ inv.watchers;
  views = subst (λ (n : ℕ). HasSlots n s'.viewings) (sym names_len) (subst (λ (vs : List Viewing). HasSlots (length s.names.names) vs) (sym h.viewings) inv.views);
  keepers = ap length h.kept ∙ length-set s.kept a (with_less (order_at s.kept a) slot) ∙ inv.keepers;
  kept = λ b i. ap (λ xs. has xs i) (list-set s.kept s'.kept a (with_less (order_at s.kept a) slot) b in_kept h.kept) ∙ keeps b i (nat_eq b a) (nat_eq i slot) refl refl;
  keep_room = λ b i t. subst (λ (n : ℕ). i < n) (sym (kept_slots b)) (inv.keep_room b i (sym (ap is_subscribed (step.holds b i) ∙ stays (is_cell b i a slot) (hold_at s.holdings.cells i b)) ∙ t));
  agent = subst (λ (n : ℕ). n < 128) (sym h.freed.agent) inv.agent;
  order_room = subst (λ (n : ℕ). length s'.names.names ≤ (order_at s'.holdings.orders n).slots) (sym h.freed.agent) (let e = ap (λ os. (order_at os s.agent).slots) orders in let r = inv.order_room in let q = names_len in omega arith);
  ready = subst (λ (n : ℕ). length s'.names.names ≤ (order_at s'.kept n).slots) (sym h.freed.agent) (let e = kept_slots s.agent in let r = inv.ready in let q = names_len in omega arith);
  names_room = (let r = inv.names_room in let p = h.freed.names_room in let q = h.freed.room in omega arith);
  few_pairs = (let r = inv.few_pairs in let q = h.freed.room in let p = fewer_pairs in omega arith);
  few_keys = (let r = inv.few_keys in let q = h.freed.room in let p = h.freed.named in omega arith);
  counted = h.freed.counted;
}
  where
    step : IsLetGo (table_of s) a slot (table_of s')
    step = letting-step a slot inv h

    names_len : length s'.names.names ≡ length s.names.names
    names_len = freed-length s s' slot h.freed

    cell : slot < length s.holdings.cells
    cell = let c = inv.cells in let w = h.within in omega arith

    cells : s'.holdings.cells ≡ (if is_kept (hold_at s.holdings.cells slot a) then slice_set s.holdings.cells slot (with_hold (cell_at s.holdings.cells slot) a Free) else s.holdings.cells)
    cells = ap (λ x. x.cells) h.holdings ∙ go-cells s.holdings a slot

    cells_len : length s'.holdings.cells ≡ length s.holdings.cells
    cells_len = ap (λ x. length x.cells) h.holdings ∙ go-length s.holdings a slot

    orders : s'.holdings.orders ≡ s.holdings.orders
    orders = ap (λ x. x.orders) h.holdings ∙ go-orders s.holdings a slot

    in_kept : a < length s.kept
    in_kept = subst (λ (n : ℕ). a < n) (sym inv.keepers) h.below

    kept_slots : (b : ℕ) → (order_at s'.kept b).slots ≡ (order_at s.kept b).slots
    kept_slots b = slots-set s.kept s'.kept a (with_less (order_at s.kept a) slot) b in_kept h.kept refl

    fewer_pairs : s'.holdings.pairs ≤ s.holdings.pairs
    fewer_pairs = let e = ap (λ x. x.pairs) h.holdings ∙ go-pairs s.holdings a slot in let m = fewer (is_kept (hold_at s.holdings.cells slot a)) s.holdings.pairs in omega arith
      where
        fewer : (c : Bool) (n : ℕ) → (if c then n - 1 else n) ≤ n
        fewer true n = omega arith
        fewer false n = omega arith

    unsubscribed : is_kept (hold_at s.holdings.cells slot a) ≡ true → is_subscribed (hold_at s.holdings.cells slot a) ≡ false
    unsubscribed e = apart (hold_at s.holdings.cells slot a) e
      where
        apart : (hold : Hold) → is_kept hold ≡ true → is_subscribed hold ≡ false
        apart Free t = refl
        apart Kept t = refl
        apart Subscribed t = absurd (true-false (sym t))

    holding : (c : Bool) → is_kept (hold_at s.holdings.cells slot a) ≡ c → s'.holdings.cells ≡ (if c then slice_set s.holdings.cells slot (with_hold (cell_at s.holdings.cells slot) a Free) else s.holdings.cells) → IsHolding s'.holdings.cells s.holdings.orders
    holding true e f = holding-let_go s.holdings.cells s'.holdings.cells s.holdings.orders a slot inv.holding cell h.below (unsubscribed e) f
    holding false e f = subst (λ (cs : List Cell). IsHolding cs s.holdings.orders) (sym f) inv.holding

    limited : (c : Bool) → is_kept (hold_at s.holdings.cells slot a) ≡ c → s'.holdings.cells ≡ (if c then slice_set s.holdings.cells slot (with_hold (cell_at s.holdings.cells slot) a Free) else s.holdings.cells) → (i : ℕ) → i < length s'.holdings.cells → length (cell_at s'.holdings.cells i).limits ≡ 128
    limited true e f i w = sizes-set (λ x. length x.limits) s.holdings.cells s'.holdings.cells (with_hold (cell_at s.holdings.cells slot) a Free) slot 128 cell f refl inv.limited i w
    limited false e f i w = ap (λ cs. length (cell_at cs i).limits) f ∙ inv.limited i (subst (λ (cs : List Cell). i < length cs) f w)

    stays : (c : Bool) (hold : Hold) → is_subscribed (if c && is_kept hold then Free else hold) ≡ is_subscribed hold
    stays true Free = refl
    stays true Kept = refl
    stays true Subscribed = refl
    stays false hold = refl

    freed_hold : (hold : Hold) → is_kept (if is_kept hold then Free else hold) ≡ false
    freed_hold Free = refl
    freed_hold Kept = refl
    freed_hold Subscribed = refl

    keeps : (b i : ℕ) (c d : Bool) → nat_eq b a ≡ c → nat_eq i slot ≡ d → has (if c then without (order_at s.kept a).list slot else (order_at s.kept b).list) i ≡ is_kept (hold_at s'.holdings.cells i b)
    keeps b i true true p q = ap (has (without (order_at s.kept a).list slot)) (equal i slot q) ∙ has-without_same (order_at s.kept a).list slot
        ∙ sym (ap is_kept (step.holds b i ∙ ap (λ c. if (c && nat_eq i slot) && is_kept (hold_at s.holdings.cells i b) then Free else hold_at s.holdings.cells i b) p ∙ ap (λ c. if c && is_kept (hold_at s.holdings.cells i b) then Free else hold_at s.holdings.cells i b) q) ∙ freed_hold (hold_at s.holdings.cells i b))
    keeps b i true false p q = has-without (order_at s.kept a).list slot i (λ e. apart-numbers i slot q (sym e)) ∙ ap (λ x. has (order_at s.kept x).list i) (sym (equal b a p)) ∙ inv.kept b i
        ∙ sym (ap is_kept (step.holds b i ∙ ap (λ c. if (c && nat_eq i slot) && is_kept (hold_at s.holdings.cells i b) then Free else hold_at s.holdings.cells i b) p ∙ ap (λ c. if c && is_kept (hold_at s.holdings.cells i b) then Free else hold_at s.holdings.cells i b) q))
    keeps b i false d p q = inv.kept b i ∙ sym (ap is_kept (step.holds b i ∙ ap (λ c. if (c && nat_eq i slot) && is_kept (hold_at s.holdings.cells i b) then Free else hold_at s.holdings.cells i b) p))

    sound_after : (o : Option Key) → key_at (table_of s) slot ≡ o → IsSound (table_of s')
    sound_after (Some j) e = sound-let_go (table_of s) (table_of s') a slot inv.sound j e step
    sound_after None e = sound-same (table_of s) (table_of s') inv.sound (vacant-same a slot inv h e step)

-- a telling
pub record Telling (s s' : Store) (w slot : ℕ) : Type 0 where
  pub below : w < 8
  pub within : slot < length s.names.names
  pub holdings : s'.holdings ≡ s.holdings
  pub kept : s'.kept ≡ s.kept
  pub viewings : s'.viewings ≡ slice_set s.viewings w (with_told (viewing_at s.viewings w) slot (total_to_tell (table_of s) w slot) (total_in (cell_at s.holdings.cells slot)))
  pub freed : Freeing s s' slot

pub telling-step : {s s' : Store} (w slot : ℕ) → IsStored s → Telling s s' w slot → IsTold (table_of s) w slot (table_of s')
unfolding slots_in hold_for limit_for order_of pairs_in view_for queue_of differs_for
telling-step {s} {s'} w slot inv h = record {
  slots = freed-length s s' slot h.freed;
  room = λ b. freed-room s s' slot b h.freed;
  pairs = ap (λ x. x.pairs) h.holdings;
  names = keeps-used s s' slot h.within full count h.freed.names;
  holds = λ b i. ap (λ x. hold_at x.cells i b) h.holdings;
  limits = λ b i. ap (λ x. limit_in (cell_at x.cells i) b) h.holdings;
  orders = λ b. ap (λ x. (order_at x.orders b).list) h.holdings;
  views = told_views;
  queues = λ v. queue-told s.viewings s'.viewings w slot (total_to_tell (table_of s) w slot) (total_in (cell_at s.holdings.cells slot)) h.viewings listed v ∙ queue v (nat_eq v w) refl;
}
  where
    cell : slot < length s.holdings.cells
    cell = let c = inv.cells in let w = h.within in omega arith

    listed : w < length s.viewings
    listed = subst (λ (n : ℕ). w < n) (sym inv.watchers) h.below

    count : length s'.viewings ≡ 8
    count = ap length h.viewings ∙ length-set s.viewings w (with_told (viewing_at s.viewings w) slot (total_to_tell (table_of s) w slot) (total_in (cell_at s.holdings.cells slot))) ∙ inv.watchers

    full : length (cell_at s'.holdings.cells slot).holds ≡ 128
    full = ap (λ x. length (cell_at x.cells slot).holds) h.holdings ∙ inv.holding.full slot cell

    limited : length (cell_at s'.holdings.cells slot).limits ≡ 128
    limited = ap (λ x. length (cell_at x.cells slot).limits) h.holdings ∙ inv.limited slot cell

    total : total_in (cell_at s.holdings.cells slot) ≡ total_for (table_of s') slot
    total = ap (λ x. total_in (cell_at x.cells slot)) (sym h.holdings) ∙ total-of s' slot full limited

    told_views : (v i : ℕ) → view_at (viewing_at s'.viewings v).views i ≡ (if is_cell v i w slot then view_told (total_to_tell (table_of s) w slot) else view_at (viewing_at s.viewings v).views i)
    told_views = view-told s.viewings s'.viewings w slot (total_to_tell (table_of s) w slot) (total_in (cell_at s.holdings.cells slot)) h.viewings listed (let r = inv.views w h.below in let p = r.0 in let q = h.within in omega arith)

    queue : (v : ℕ) (c : Bool) → nat_eq v w ≡ c → (if c then queued_again (viewing_at s.viewings v).queue.list slot (view_differs (view_told (total_to_tell (table_of s) w slot)) (total_in (cell_at s.holdings.cells slot))) else (viewing_at s.viewings v).queue.list)
        ≡ (if c then queued_again (viewing_at s.viewings v).queue.list slot (view_differs (view_at (viewing_at s'.viewings v).views slot) (total_for (table_of s') slot)) else (viewing_at s.viewings v).queue.list)
    queue v true e = ap (queued_again (viewing_at s.viewings v).queue.list slot)
        (ap (λ x. view_differs x (total_in (cell_at s.holdings.cells slot))) (sym (told_views v slot ∙ ap (λ c. if c && nat_eq slot slot then view_told (total_to_tell (table_of s) w slot) else view_at (viewing_at s.viewings v).views slot) e ∙ ap (λ c. if c then view_told (total_to_tell (table_of s) w slot) else view_at (viewing_at s.viewings v).views slot) (same slot)))
        ∙ ap (view_differs (view_at (viewing_at s'.viewings v).views slot)) total)
    queue v false e = refl

pub telling-stored : {s s' : Store} (w slot : ℕ) → IsStored s → Telling s s' w slot → (k : Key) → key_at (table_of s) slot ≡ Some k → IsStored s'
unfolding hold_for
telling-stored {s} {s'} w slot inv h k own = record {
  sound = sound-told (table_of s) (table_of s') w slot k inv.sound h.below own (telling-step w slot inv h);
  holding = subst (λ (x : Holdings). IsHolding x.cells x.orders) (sym h.holdings) inv.holding;
  limited = λ i l. ap (λ x. length (cell_at x.cells i).limits) h.holdings ∙ inv.limited i (subst (λ (x : Holdings). i < length x.cells) h.holdings l);
  cells = (let p = names_len in let q = ap (λ x. length x.cells) h.holdings in let r = inv.cells in omega arith);
  watchers = ap length h.viewings ∙ length-set s.viewings w (with_told (viewing_at s.viewings w) slot (total_to_tell (table_of s) w slot) (total_in (cell_at s.holdings.cells slot))) ∙ inv.watchers;
  views = subst (λ (n : ℕ). HasSlots n s'.viewings) (sym names_len) (told-room s.viewings s'.viewings w slot (length s.names.names) (total_to_tell (table_of s) w slot) (total_in (cell_at s.holdings.cells slot)) h.viewings (subst (λ (n : ℕ). w < n) (sym inv.watchers) h.below) inv.views);
  keepers = ap length h.kept ∙ inv.keepers;
  kept = λ b i. ap (λ ks. has (order_at ks b).list i) h.kept ∙ inv.kept b i ∙ ap (λ x. is_kept (hold_at x.cells i b)) (sym h.holdings);
  keep_room = λ b i t. subst (λ (ks : List SlotList). i < (order_at ks b).slots) (sym h.kept) (inv.keep_room b i (ap (λ x. is_subscribed (hold_at x.cells i b)) (sym h.holdings) ∙ t));
  agent = subst (λ (n : ℕ). n < 128) (sym h.freed.agent) inv.agent;
  order_room = subst (λ (n : ℕ). length s'.names.names ≤ (order_at s'.holdings.orders n).slots) (sym h.freed.agent) (let e = ap (λ x. (order_at x.orders s.agent).slots) h.holdings in let r = inv.order_room in let q = names_len in omega arith);
  ready = subst (λ (n : ℕ). length s'.names.names ≤ (order_at s'.kept n).slots) (sym h.freed.agent) (let e = ap (λ ks. (order_at ks s.agent).slots) h.kept in let r = inv.ready in let q = names_len in omega arith);
  names_room = (let r = inv.names_room in let p = h.freed.names_room in let q = h.freed.room in omega arith);
  few_pairs = (let r = inv.few_pairs in let q = h.freed.room in let p = ap (λ x. x.pairs) h.holdings in omega arith);
  few_keys = (let r = inv.few_keys in let q = h.freed.room in let p = h.freed.named in omega arith);
  counted = h.freed.counted;
}
  where
    names_len : length s'.names.names ≡ length s.names.names
    names_len = freed-length s s' slot h.freed
