-- The orders fit the holds after each change.
use Rattle.std.proofs.Common.{◌≡◌, ◌≢◌, inl, inr, ℕ, zero, suc, ◌+◌, ◌-◌, ◌<◌, ◌≤◌, Bool, true, false, ◌||◌, nat_eq, if◌then◌else◌, Option, Some, None, Result, Ok, Err, OnErr, List, [], ◌∷◌, ◌++◌, length, min, replicate, append_assoc, add-one, drop, slice_set, slice_index, slice_index_or, get_or-set_other, get_or-set_same, refl, ap, sym, ◌∙◌, arith, subst}
use Rattle.std.proofs.lemmas.List.{length-set, length-append, append-nil, get_or_append_left, get_or-append_right, get_or_past}
use Rattle.std.specs.declared.alloc.AllocError.{AllocError}
use Rattle.qd_pend.specs.Slots.{SlotList, has}
use Rattle.qd_pend.proofs.ListLaws.{same, equal, has-push, has-without, has-without_same}
use Rattle.qd_slots.specs.declared.holds.Hold.{Hold}
use Rattle.qd_slots.specs.declared.holds.Hold.TheVariants.{Free, Kept, Subscribed}
use Rattle.qd_slots.specs.declared.holds.Cell.{Cell}
use Rattle.qd_slots.specs.Holds.{no_cell, no_order, cell_at, order_at, hold_in, hold_at, is_subscribed, with_hold, with_limit, with_last, with_less, limits_of, lesser_of, subscribed_from, more_by, after_end, with_subscription, free_cell, free_cells, with_room, Holdings, IsHolding, IsRoomier}
use Rattle.qd_slots.proofs.NameLaws.{below-or-not}
use Rattle.qd_sub.specs.Subscriptions.{least}

-- within a list the default plays no part
pub at-default : {X : Type 0} (xs : List X) (i : ℕ) (d e : X) → i < length xs → slice_index_or xs i d ≡ slice_index_or xs i e
at-default [] i d e h = absurd (omega arith)
at-default (x ∷ xs) zero d e h = refl
at-default (x ∷ xs) (suc i) d e h = at-default xs i d e (omega arith)

-- an element that was read, with a default of its own
pub at-read : {X : Type 0} (xs : List X) (i : ℕ) (x d : X) → i < length xs → x ≡ slice_index_or xs i x → x ≡ slice_index_or xs i d
at-read xs i x d h e = e ∙ at-default xs i x d h

pub set-twice : {X : Type 0} (xs : List X) (i : ℕ) (x y : X) → slice_set (slice_set xs i x) i y ≡ slice_set xs i y
set-twice [] i x y = refl
set-twice (z ∷ xs) zero x y = refl
set-twice (z ∷ xs) (suc i) x y = ap (λ zs. z ∷ zs) (set-twice xs i x y)

apart : (i j : ℕ) → nat_eq i j ≡ false → i ≢ j
apart i j h e = let z : true ≡ false = sym (same i) ∙ ap (nat_eq i) e ∙ h in cc

pub hold_at-same : (cells : List Cell) (slot : ℕ) (cell : Cell) (agent : ℕ) → slot < length cells → hold_at (slice_set cells slot cell) slot agent ≡ hold_in cell agent
hold_at-same cells slot cell agent h = ap (λ c. hold_in c agent) (get_or-set_same cells slot cell no_cell h)

pub hold_at-other : (cells : List Cell) (slot i : ℕ) (cell : Cell) (agent : ℕ) → i ≢ slot → hold_at (slice_set cells slot cell) i agent ≡ hold_at cells i agent
hold_at-other cells slot i cell agent h = ap (λ c. hold_in c agent) (get_or-set_other cells slot i cell no_cell h)

pub hold_in-same : (cell : Cell) (agent : ℕ) (hold : Hold) → agent < length cell.holds → hold_in (with_hold cell agent hold) agent ≡ hold
hold_in-same cell agent hold h = get_or-set_same cell.holds agent hold Free h

pub hold_in-other : (cell : Cell) (agent b : ℕ) (hold : Hold) → b ≢ agent → hold_in (with_hold cell agent hold) b ≡ hold_in cell b
hold_in-other cell agent b hold h = get_or-set_other cell.holds agent b hold Free h

pub order_at-same : (orders : List SlotList) (agent : ℕ) (order : SlotList) → agent < length orders → order_at (slice_set orders agent order) agent ≡ order
order_at-same orders agent order h = get_or-set_same orders agent order no_order h

pub order_at-other : (orders : List SlotList) (agent b : ℕ) (order : SlotList) → b ≢ agent → order_at (slice_set orders agent order) b ≡ order_at orders b
order_at-other orders agent b order h = get_or-set_other orders agent b order no_order h

-- a cell that has as many holds as before
full-after : (cells : List Cell) (orders : List SlotList) (slot : ℕ) (cell : Cell) → IsHolding cells orders → slot < length cells → length cell.holds ≡ length (cell_at cells slot).holds → (i : ℕ) → i < length (slice_set cells slot cell) → length (cell_at (slice_set cells slot cell) i).holds ≡ 128
full-after cells orders slot cell h w len i v =
    let lengths = length-set cells slot cell in
    let go : (b : Bool) → nat_eq i slot ≡ b → length (cell_at (slice_set cells slot cell) i).holds ≡ 128 =
    elim [
      | true ↦ λ e. ap (λ j. length (cell_at (slice_set cells slot cell) j).holds) (equal i slot e) ∙ ap (λ c. length c.holds) (get_or-set_same cells slot cell no_cell w) ∙ len ∙ h.full slot w
      | false ↦ λ e. ap (λ c. length c.holds) (get_or-set_other cells slot i cell no_cell (apart i slot e)) ∙ h.full i (omega arith)
    ] in
    go (nat_eq i slot) refl

-- what an agent has of the cell changes so, and its order with it
holding-after : (cells : List Cell) (orders : List SlotList) (agent slot : ℕ) (cell : Cell) (hold : Hold) (order : SlotList) → IsHolding cells orders → slot < length cells → agent < 128 →
    cell.holds ≡ slice_set (cell_at cells slot).holds agent hold →
    has order.list slot ≡ is_subscribed hold → ((i : ℕ) → i ≢ slot → has order.list i ≡ has (order_at orders agent).list i) →
    IsHolding (slice_set cells slot cell) (slice_set orders agent order)
holding-after cells orders agent slot cell hold order h w v holds there else_same =
    let agents = h.agents in
    let len : length (slice_set orders agent order) ≡ length orders = length-set orders agent order in
    record {
      full = full-after cells orders slot cell h w (ap length holds ∙ length-set (cell_at cells slot).holds agent hold);
      agents = len ∙ h.agents;
      ordered = λ b i. ordered b i (nat_eq b agent) (nat_eq i slot) refl refl;
    }
  where
    within : agent < length orders
    within = let a = h.agents in omega arith

    full : agent < length (cell_at cells slot).holds
    full = let f = h.full slot w in omega arith

    own : (i : ℕ) → has (order_at (slice_set orders agent order) agent).list i ≡ has order.list i
    own i = ap (λ o. has o.list i) (order_at-same orders agent order within)

    ordered : (b i : ℕ) (x y : Bool) → nat_eq b agent ≡ x → nat_eq i slot ≡ y → has (order_at (slice_set orders agent order) b).list i ≡ is_subscribed (hold_at (slice_set cells slot cell) i b)
    ordered b i true true e f =
        subst (λ (j : ℕ). has (order_at (slice_set orders agent order) b).list j ≡ is_subscribed (hold_at (slice_set cells slot cell) j b)) (sym (equal i slot f))
        (subst (λ (j : ℕ). has (order_at (slice_set orders agent order) j).list slot ≡ is_subscribed (hold_at (slice_set cells slot cell) slot j)) (sym (equal b agent e))
        (own slot ∙ there ∙ sym (ap is_subscribed (hold_at-same cells slot cell agent w ∙ ap (λ hs. slice_index_or hs agent Free) holds ∙ get_or-set_same (cell_at cells slot).holds agent hold Free full))))
    ordered b i true false e f =
        subst (λ (j : ℕ). has (order_at (slice_set orders agent order) j).list i ≡ is_subscribed (hold_at (slice_set cells slot cell) i j)) (sym (equal b agent e))
        (own i ∙ else_same i (apart i slot f) ∙ h.ordered agent i ∙ sym (ap is_subscribed (hold_at-other cells slot i cell agent (apart i slot f))))
    ordered b i false true e f =
        subst (λ (j : ℕ). has (order_at (slice_set orders agent order) b).list j ≡ is_subscribed (hold_at (slice_set cells slot cell) j b)) (sym (equal i slot f))
        (ap (λ o. has o.list slot) (order_at-other orders agent b order (apart b agent e)) ∙ h.ordered b slot
        ∙ sym (ap is_subscribed (hold_at-same cells slot cell b w ∙ ap (λ hs. slice_index_or hs b Free) holds ∙ get_or-set_other (cell_at cells slot).holds agent b hold Free (apart b agent e))))
    ordered b i false false e f =
        ap (λ o. has o.list i) (order_at-other orders agent b order (apart b agent e)) ∙ h.ordered b i ∙ sym (ap is_subscribed (hold_at-other cells slot i cell b (apart i slot f)))

or-same : (b : Bool) → (b || false) ≡ b
or-same true = refl
or-same false = refl

or-true : (b : Bool) → (b || true) ≡ true
or-true true = refl
or-true false = refl

last-there : (hold : Hold) (order : SlotList) (slot : ℕ) → has order.list slot ≡ is_subscribed hold → has (with_last hold order slot).list slot ≡ true
last-there Subscribed order slot h = h
last-there Free order slot h = has-push order.list slot slot ∙ ap (λ b. has order.list slot || b) (same slot) ∙ or-true (has order.list slot)
last-there Kept order slot h = has-push order.list slot slot ∙ ap (λ b. has order.list slot || b) (same slot) ∙ or-true (has order.list slot)

not-last : (i slot : ℕ) → i ≢ slot → nat_eq i slot ≡ false
not-last i slot n =
    let go : (b : Bool) → nat_eq i slot ≡ b → b ≡ false = elim [ true ↦ λ e. absurd (n (equal i slot e)) | false ↦ λ e. refl ] in
    go (nat_eq i slot) refl

last-else : (hold : Hold) (order : SlotList) (slot i : ℕ) → i ≢ slot → has (with_last hold order slot).list i ≡ has order.list i
last-else Subscribed order slot i n = refl
last-else Free order slot i n = has-push order.list slot i ∙ ap (λ b. has order.list i || b) (not-last i slot n) ∙ or-same (has order.list i)
last-else Kept order slot i n = has-push order.list slot i ∙ ap (λ b. has order.list i || b) (not-last i slot n) ∙ or-same (has order.list i)

-- a subscription
pub holding-subscribe : (cells cells' : List Cell) (orders orders' : List SlotList) (agent slot limit : ℕ) → IsHolding cells orders → slot < length cells → agent < 128 → cells' ≡ slice_set cells slot (with_limit (with_hold (cell_at cells slot) agent Subscribed) agent limit) →
    orders' ≡ slice_set orders agent (with_last (hold_at cells slot agent) (order_at orders agent) slot) → IsHolding cells' orders'
holding-subscribe cells cells' orders orders' agent slot limit h w v c o =
    subst (λ (cs : List Cell). IsHolding cs orders') (sym c) (subst (λ (os : List SlotList). IsHolding (slice_set cells slot (with_limit (with_hold (cell_at cells slot) agent Subscribed) agent limit)) os) (sym o)
    (holding-after cells orders agent slot (with_limit (with_hold (cell_at cells slot) agent Subscribed) agent limit) Subscribed (with_last (hold_at cells slot agent) (order_at orders agent) slot) h w v refl
    (last-there (hold_at cells slot agent) (order_at orders agent) slot (h.ordered agent slot)) (λ i n. last-else (hold_at cells slot agent) (order_at orders agent) slot i n)))

-- the end of a subscription
pub holding-end : (cells cells' : List Cell) (orders orders' : List SlotList) (agent slot : ℕ) (hold : Hold) → IsHolding cells orders → slot < length cells → agent < 128 → is_subscribed hold ≡ false → cells' ≡ slice_set cells slot (with_hold (cell_at cells slot) agent hold) →
    orders' ≡ slice_set orders agent (with_less (order_at orders agent) slot) → IsHolding cells' orders'
holding-end cells cells' orders orders' agent slot hold h w v no_more c o =
    subst (λ (cs : List Cell). IsHolding cs orders') (sym c) (subst (λ (os : List SlotList). IsHolding (slice_set cells slot (with_hold (cell_at cells slot) agent hold)) os) (sym o)
    (holding-after cells orders agent slot (with_hold (cell_at cells slot) agent hold) hold (with_less (order_at orders agent) slot) h w v refl
    (has-without_same (order_at orders agent).list slot ∙ sym no_more) (λ i n. has-without (order_at orders agent).list slot i (λ e. n (sym e)))))

set-own : {X : Type 0} (xs : List X) (i : ℕ) (d : X) → i < length xs → slice_set xs i (slice_index_or xs i d) ≡ xs
set-own [] i d h = refl
set-own (x ∷ xs) zero d h = refl
set-own (x ∷ xs) (suc i) d h = ap (λ ys. x ∷ ys) (set-own xs i d (omega arith))

-- what was kept is let go
pub holding-let_go : (cells cells' : List Cell) (orders : List SlotList) (agent slot : ℕ) → IsHolding cells orders → slot < length cells → agent < 128 → is_subscribed (hold_at cells slot agent) ≡ false → cells' ≡ slice_set cells slot (with_hold (cell_at cells slot) agent Free) → IsHolding cells' orders
holding-let_go cells cells' orders agent slot h w v kept c =
    subst (λ (cs : List Cell). IsHolding cs orders) (sym c)
    (subst (λ (os : List SlotList). IsHolding (slice_set cells slot (with_hold (cell_at cells slot) agent Free)) os) (set-own orders agent no_order (let a = h.agents in omega arith))
    (holding-after cells orders agent slot (with_hold (cell_at cells slot) agent Free) Free (order_at orders agent) h w v refl (h.ordered agent slot ∙ kept) (λ i n. refl)))

least-more : (n : ℕ) (ns : List ℕ) → least (n ∷ ns) ≡ lesser_of (Some n) (least ns)
unfolding least
least-more n ns = elim (least ns) as (λ o. (let x : Option ℕ = Some (elim o [ None ↦ n | Some m ↦ min n m ]) in x) ≡ lesser_of (Some n) o) [ None ↦ refl | Some m ↦ refl ]

some-equal : (m n : ℕ) → m ≡ n → (let a : Option ℕ = Some m in let b : Option ℕ = Some n in a ≡ b)
some-equal m n e = ap (λ x. let a : Option ℕ = Some x in a) e

pub lesser-moved : (n : ℕ) (best rest : Option ℕ) → lesser_of (lesser_of (Some n) best) rest ≡ lesser_of best (lesser_of (Some n) rest)
lesser-moved n None rest = refl
lesser-moved n (Some m) None = some-equal (min n m) (min m n) (omega arith)
lesser-moved n (Some m) (Some r) = some-equal (min (min n m) r) (min m (min n r)) (omega arith)

limits-drop : (holds : List Hold) (limits : List ℕ) (i : ℕ) → i < length holds → length holds ≡ length limits →
    limits_of (drop i holds) (drop i limits) ≡ (if is_subscribed (slice_index_or holds i Free) then slice_index limits i ∷ limits_of (drop (suc i) holds) (drop (suc i) limits) else limits_of (drop (suc i) holds) (drop (suc i) limits))
unfolding limits_of
limits-drop [] limits i h e = absurd (omega arith)
limits-drop (x ∷ holds) [] i h e = absurd (omega arith)
limits-drop (x ∷ holds) (n ∷ limits) zero h e = refl
limits-drop (x ∷ holds) (n ∷ limits) (suc i) h e = limits-drop holds limits i (omega arith) (omega arith)

-- the least limit so far and that of the rest, where the next is subscribed
pub least-yes : (holds : List Hold) (limits : List ℕ) (i n : ℕ) (best next : Option ℕ) → i < length holds → length holds ≡ length limits → is_subscribed (slice_index_or holds i Free) ≡ true → n ≡ slice_index limits i → next ≡ lesser_of (Some n) best →
    lesser_of best (least (limits_of (drop i holds) (drop i limits))) ≡ lesser_of next (least (limits_of (drop (suc i) holds) (drop (suc i) limits)))
least-yes holds limits i n best next h e s v w =
    ap (λ l. lesser_of best (least l)) (limits-drop holds limits i h e ∙ rw s refl)
    ∙ ap (lesser_of best) (least-more (slice_index limits i) (limits_of (drop (suc i) holds) (drop (suc i) limits)))
    ∙ sym (lesser-moved (slice_index limits i) best (least (limits_of (drop (suc i) holds) (drop (suc i) limits))))
    ∙ ap (λ x. lesser_of (lesser_of (Some x) best) (least (limits_of (drop (suc i) holds) (drop (suc i) limits)))) (sym v)
    ∙ ap (λ o. lesser_of o (least (limits_of (drop (suc i) holds) (drop (suc i) limits)))) (sym w)

-- and where it is not
pub least-no : (holds : List Hold) (limits : List ℕ) (i : ℕ) (best : Option ℕ) → i < length holds → length holds ≡ length limits → is_subscribed (slice_index_or holds i Free) ≡ false →
    lesser_of best (least (limits_of (drop i holds) (drop i limits))) ≡ lesser_of best (least (limits_of (drop (suc i) holds) (drop (suc i) limits)))
least-no holds limits i best h e s = ap (λ l. lesser_of best (least l)) (limits-drop holds limits i h e ∙ rw s refl)

limits-past : (holds : List Hold) (limits : List ℕ) (i : ℕ) → length holds ≤ i → limits_of (drop i holds) (drop i limits) ≡ []
unfolding limits_of
limits-past [] limits zero h = refl
limits-past [] limits (suc i) h = refl
limits-past (x ∷ holds) limits zero h = absurd (omega arith)
limits-past (x ∷ holds) [] (suc i) h = none-left (drop i holds)
  where
    none-left : (hs : List Hold) → limits_of hs [] ≡ []
    none-left [] = refl
    none-left (y ∷ hs) = refl
limits-past (x ∷ holds) (n ∷ limits) (suc i) h = limits-past holds limits i (omega arith)

-- at the end
pub least-end : (holds : List Hold) (limits : List ℕ) (i : ℕ) (best : Option ℕ) → length holds ≤ i → lesser_of best (least (limits_of (drop i holds) (drop i limits))) ≡ best
unfolding least
least-end holds limits i None h = ap least (limits-past holds limits i h)
least-end holds limits i (Some m) h = ap (λ l. lesser_of (Some m) (least l)) (limits-past holds limits i h)

-- the agents from one on, where the first is subscribed, is not, and at the end
pub from-yes : (holds : List Hold) (i n : ℕ) → i < length holds → is_subscribed (slice_index_or holds i Free) ≡ true → subscribed_from n (drop i holds) ≡ Some n
unfolding subscribed_from
from-yes [] i n h s = absurd (omega arith)
from-yes (x ∷ holds) zero n h s = rw s refl
from-yes (x ∷ holds) (suc i) n h s = from-yes holds i n (omega arith) s

pub from-no : (holds : List Hold) (i n : ℕ) → i < length holds → is_subscribed (slice_index_or holds i Free) ≡ false → subscribed_from n (drop i holds) ≡ subscribed_from (suc n) (drop (suc i) holds)
unfolding subscribed_from
from-no [] i n h s = absurd (omega arith)
from-no (x ∷ holds) zero n h s = rw s refl
from-no (x ∷ holds) (suc i) n h s = from-no holds i n (omega arith) s

pub from-end : (holds : List Hold) (i n : ℕ) → length holds ≤ i → subscribed_from n (drop i holds) ≡ None
unfolding subscribed_from
from-end [] zero n h = refl
from-end [] (suc i) n h = refl
from-end (x ∷ holds) zero n h = absurd (omega arith)
from-end (x ∷ holds) (suc i) n h = from-end holds i n (omega arith)

-- two writes to a cell are one
cells-twice : (cells : List Cell) (slot agent limit : ℕ) → slot < length cells →
    slice_set (slice_set cells slot (with_hold (cell_at cells slot) agent Subscribed)) slot (with_limit (cell_at (slice_set cells slot (with_hold (cell_at cells slot) agent Subscribed)) slot) agent limit)
    ≡ slice_set cells slot (with_limit (with_hold (cell_at cells slot) agent Subscribed) agent limit)
cells-twice cells slot agent limit w =
    ap (λ c. slice_set (slice_set cells slot (with_hold (cell_at cells slot) agent Subscribed)) slot (with_limit c agent limit)) (get_or-set_same cells slot (with_hold (cell_at cells slot) agent Subscribed) no_cell w)
    ∙ set-twice cells slot (with_hold (cell_at cells slot) agent Subscribed) (with_limit (with_hold (cell_at cells slot) agent Subscribed) agent limit)

pub cells-subscribed : (cells one two : List Cell) (slot agent limit : ℕ) → slot < length cells → one ≡ slice_set cells slot (with_hold (cell_at cells slot) agent Subscribed) → two ≡ slice_set one slot (with_limit (cell_at one slot) agent limit) →
    two ≡ slice_set cells slot (with_limit (with_hold (cell_at cells slot) agent Subscribed) agent limit)
cells-subscribed cells one two slot agent limit w e f = f ∙ ap (λ cs. slice_set cs slot (with_limit (cell_at cs slot) agent limit)) e ∙ cells-twice cells slot agent limit w

pub holdings-same : (cells cells' : List Cell) (orders orders' : List SlotList) (pairs pairs' : ℕ) → cells ≡ cells' → orders ≡ orders' → pairs ≡ pairs' →
    (let x : Holdings = record { cells = cells; orders = orders; pairs = pairs } in let y : Holdings = record { cells = cells'; orders = orders'; pairs = pairs' } in x ≡ y)
holdings-same cells cells' orders orders' pairs pairs' e f g = cc

pub at-replicate : {X : Type 0} (n i : ℕ) (x : X) → slice_index_or (replicate n x) i x ≡ x
at-replicate zero i x = refl
at-replicate (suc n) zero x = refl
at-replicate (suc n) (suc i) x = at-replicate n i x

pub length-free : (n : ℕ) → length (free_cells n) ≡ n
unfolding free_cells
length-free zero = refl
length-free (suc n) = ap (λ m. suc m) (length-free n)

pub free-at : (n i : ℕ) → i < n → cell_at (free_cells n) i ≡ free_cell
unfolding free_cells
free-at zero i h = absurd (omega arith)
free-at (suc n) zero h = refl
free-at (suc n) (suc i) h = free-at n i (omega arith)

pub free-hold : (n i agent : ℕ) → hold_in (cell_at (free_cells n) i) agent ≡ Free
free-hold n i agent = elim (below-or-not i n) [
  | inl h ↦ ap (λ c. hold_in c agent) (free-at n i h) ∙ at-replicate 128 agent Free
  | inr h ↦ ap (λ c. hold_in c agent) (get_or_past (free_cells n) i no_cell (let l = length-free n in omega arith))
]

pub hold_at-free : (cells : List Cell) (n i agent : ℕ) → hold_at (cells ++ free_cells n) i agent ≡ hold_at cells i agent
hold_at-free cells n i agent = elim (below-or-not i (length cells)) [
  | inl h ↦ ap (λ c. hold_in c agent) (get_or_append_left cells (free_cells n) no_cell i h)
  | inr h ↦ ap (λ c. hold_in c agent) (get_or-append_right cells (free_cells n) (length cells) i no_cell refl h) ∙ free-hold n (i - length cells) agent ∙ sym (ap (λ c. hold_in c agent) (get_or_past cells i no_cell h))
]

-- no cells, and an empty order for each agent
pub holding-new : (cells : List Cell) (orders : List SlotList) → cells ≡ [] → orders ≡ replicate 128 no_order → IsHolding cells orders
holding-new cells orders c o = record {
  full = λ i h. absurd (let l = ap length c in omega arith);
  agents = ap length o;
  ordered = λ agent i. ap (λ os. has (order_at os agent).list i) o ∙ ap (λ q. has q.list i) (at-replicate 128 agent no_order) ∙ sym (ap (λ cs. is_subscribed (hold_at cs i agent)) c);
}

-- free cells are added, and orders get room
pub holding-free : (cells cells' : List Cell) (orders : List SlotList) (n : ℕ) → IsHolding cells orders → cells' ≡ cells ++ free_cells n → IsHolding cells' orders
holding-free cells cells' orders n h e = subst (λ (cs : List Cell). IsHolding cs orders) (sym e) (record {
  full = λ i w. elim (below-or-not i (length cells)) [
    | inl v ↦ ap (λ c. length c.holds) (get_or_append_left cells (free_cells n) no_cell i v) ∙ h.full i v
    | inr v ↦ ap (λ c. length c.holds) (get_or-append_right cells (free_cells n) (length cells) i no_cell refl v ∙ free-at n (i - length cells) (let l = length-append cells (free_cells n) in let m = length-free n in omega arith))
  ];
  agents = h.agents;
  ordered = λ agent i. h.ordered agent i ∙ sym (ap is_subscribed (hold_at-free cells n i agent));
})

pub roomy-lists : (orders : List SlotList) (agent b slots : ℕ) → agent < length orders → (order_at (slice_set orders agent (with_room (order_at orders agent) slots)) b).list ≡ (order_at orders b).list
roomy-lists orders agent b slots w =
    let go : (x : Bool) → nat_eq b agent ≡ x → (order_at (slice_set orders agent (with_room (order_at orders agent) slots)) b).list ≡ (order_at orders b).list =
    elim [
      | true ↦ λ e. subst (λ (j : ℕ). (order_at (slice_set orders agent (with_room (order_at orders agent) slots)) j).list ≡ (order_at orders j).list) (sym (equal b agent e)) (ap (λ q. q.list) (order_at-same orders agent (with_room (order_at orders agent) slots) w))
      | false ↦ λ e. ap (λ q. q.list) (order_at-other orders agent b (with_room (order_at orders agent) slots) (apart b agent e))
    ] in
    go (nat_eq b agent) refl

pub holding-room : (cells : List Cell) (orders orders' : List SlotList) (agent slots : ℕ) → IsHolding cells orders → agent < 128 → orders' ≡ slice_set orders agent (with_room (order_at orders agent) slots) → IsHolding cells orders'
holding-room cells orders orders' agent slots h v e = record {
  full = h.full;
  agents = ap length e ∙ length-set orders agent (with_room (order_at orders agent) slots) ∙ h.agents;
  ordered = λ b i. ap (λ os. has (order_at os b).list i) e ∙ ap (λ l. has l i) (roomy-lists orders agent b slots (let a = h.agents in omega arith)) ∙ h.ordered b i;
}

roomy-slots : (orders : List SlotList) (agent b slots : ℕ) → agent < length orders → (order_at orders b).slots ≤ (order_at (slice_set orders agent (with_room (order_at orders agent) slots)) b).slots
roomy-slots orders agent b slots w =
    let go : (x : Bool) → nat_eq b agent ≡ x → (order_at orders b).slots ≤ (order_at (slice_set orders agent (with_room (order_at orders agent) slots)) b).slots =
    elim [
      | true ↦ λ e. let z = ap (λ q. q.slots) (order_at-same orders agent (with_room (order_at orders agent) slots) w) in
          subst (λ (j : ℕ). (order_at orders j).slots ≤ (order_at (slice_set orders agent (with_room (order_at orders agent) slots)) j).slots) (sym (equal b agent e)) (omega arith)
      | false ↦ λ e. let z = ap (λ q. q.slots) (order_at-other orders agent b (with_room (order_at orders agent) slots) (apart b agent e)) in omega arith
    ] in
    go (nat_eq b agent) refl

-- the holdings after a reservation
pub roomier : (cells cells' : List Cell) (orders orders' : List SlotList) (pairs n agent slots : ℕ) → agent < length orders → cells' ≡ cells ++ free_cells n → orders' ≡ slice_set orders agent (with_room (order_at orders agent) slots) →
    (let x : Holdings = record { cells = cells; orders = orders; pairs = pairs } in let y : Holdings = record { cells = cells'; orders = orders'; pairs = pairs } in IsRoomier x y)
roomier cells cells' orders orders' pairs n agent slots w c o = record {
  cells = (n, c);
  lists = λ b. ap (λ os. (order_at os b).list) o ∙ roomy-lists orders agent b slots w;
  slots = λ b. let z = roomy-slots orders agent b slots w in let y = ap (λ os. (order_at os b).slots) o in omega arith;
  pairs = refl;
}

pub roomier-same : (h : Holdings) → IsRoomier h h
unfolding free_cells
roomier-same h = record { cells = (0, sym (append-nil h.cells)); lists = λ b. refl; slots = λ b. omega arith; pairs = refl }

pub free-none : (cells : List Cell) → cells ≡ cells ++ free_cells 0
unfolding free_cells
free-none cells = sym (append-nil cells)

free-more : (n : ℕ) → free_cells (n + 1) ≡ free_cells n ++ free_cell ∷ []
unfolding free_cells
free-more zero = refl
free-more (suc n) = ap free_cells (add-one (suc n)) ∙ ap (λ cs. free_cell ∷ cs) (ap free_cells (sym (add-one n)) ∙ free-more n)

pub cells-none : (cells : List Cell) (from : ℕ) → cells ≡ cells ++ free_cells (from - from)
unfolding free_cells
cells-none cells from = let e : from - from ≡ 0 = omega arith in rw e (sym (append-nil cells))

pub cells-more : (old cells cells' : List Cell) (from slot : ℕ) → cells ≡ old ++ free_cells (slot - from) → cells' ≡ cells ++ free_cell ∷ [] → from ≤ slot → cells' ≡ old ++ free_cells (slot + 1 - from)
cells-more old cells cells' from slot e n le =
    let count : slot + 1 - from ≡ (slot - from) + 1 = omega arith in
    n ∙ ap (λ cs. cs ++ free_cell ∷ []) e ∙ append_assoc old (free_cells (slot - from)) (free_cell ∷ []) ∙ ap (λ cs. old ++ cs) (sym (free-more (slot - from)) ∙ ap free_cells (sym count))

pub orders-more : (orders orders' : List SlotList) (n : ℕ) (one : SlotList) → orders ≡ replicate n no_order → orders' ≡ orders ++ one ∷ [] → one ≡ no_order → orders' ≡ replicate (n + 1) no_order
orders-more orders orders' n one e f g = f ∙ ap (λ os. os ++ one ∷ []) e ∙ ap (λ o. replicate n no_order ++ o ∷ []) g ∙ sym (replicate-more n)
  where
    replicate-more : (m : ℕ) → replicate (m + 1) no_order ≡ replicate m no_order ++ no_order ∷ []
    replicate-more zero = refl
    replicate-more (suc m) = ap (λ k. replicate k no_order) (add-one (suc m)) ∙ ap (λ os. no_order ∷ os) (ap (λ k. replicate k no_order) (sym (add-one m)) ∙ replicate-more m)

-- a refusal that leaves one order as it was leaves them all
pub orders-err : (r : Result (Unit {0}) AllocError) (orders : List SlotList) (agent : ℕ) (old new : SlotList) → agent < length orders → old ≡ slice_index_or orders agent old → new.list ≡ old.list → OnErr r (new.slots ≡ old.slots) → OnErr r (slice_set orders agent new ≡ orders)
orders-err (Ok x) orders agent old new w e l s = tt
orders-err (Err x) orders agent old new w e l s =
    let same_order : new ≡ order_at orders agent = orders-equal new old l s ∙ at-read orders agent old no_order w e in
    ap (slice_set orders agent) same_order ∙ set-own orders agent no_order w
  where
    orders-equal : (a b : SlotList) → a.list ≡ b.list → a.slots ≡ b.slots → a ≡ b
    orders-equal a b p q = ap (λ xs. let x : SlotList = record { list = xs; slots = a.slots } in x) p ∙ ap (λ n. let x : SlotList = record { list = b.list; slots = n } in x) q

pub roomier-err : (now : Holdings) (cells : List Cell) (orders orders' : List SlotList) (pairs : ℕ) → (let x : Holdings = record { cells = cells; orders = orders; pairs = pairs } in x ≡ now) → orders' ≡ orders → (let y : Holdings = record { cells = cells; orders = orders'; pairs = pairs } in IsRoomier now y)
roomier-err now cells orders orders' pairs e o =
    subst (λ (h : Holdings). IsRoomier h (record { cells = cells; orders = orders'; pairs = pairs })) e
    (subst (λ (os : List SlotList). (let x : Holdings = record { cells = cells; orders = orders; pairs = pairs } in let y : Holdings = record { cells = cells; orders = os; pairs = pairs } in IsRoomier x y)) (sym o) (roomier-same (record { cells = cells; orders = orders; pairs = pairs })))

pub roomier-ok : (now : Holdings) (cells cells' : List Cell) (orders orders' : List SlotList) (pairs n agent slots : ℕ) → (let x : Holdings = record { cells = cells; orders = orders; pairs = pairs } in x ≡ now) → agent < length orders → cells' ≡ cells ++ free_cells n →
    orders' ≡ slice_set orders agent (with_room (order_at orders agent) slots) → (let y : Holdings = record { cells = cells'; orders = orders'; pairs = pairs } in IsRoomier now y)
roomier-ok now cells cells' orders orders' pairs n agent slots e w c o =
    subst (λ (h : Holdings). IsRoomier h (record { cells = cells'; orders = orders'; pairs = pairs })) e (roomier cells cells' orders orders' pairs n agent slots w c o)

-- a subscription, shown
pub subscribed-shown : (now : Holdings) (cells one two : List Cell) (orders orders' : List SlotList) (pairs pairs' agent slot limit : ℕ) (hold : Hold) → (let x : Holdings = record { cells = cells; orders = orders; pairs = pairs } in x ≡ now) → slot < length cells → hold ≡ hold_at cells slot agent →
    one ≡ slice_set cells slot (with_hold (cell_at cells slot) agent Subscribed) → two ≡ slice_set one slot (with_limit (cell_at one slot) agent limit) → orders' ≡ slice_set orders agent (with_last hold (order_at orders agent) slot) → pairs' ≡ more_by hold pairs →
    (let y : Holdings = record { cells = two; orders = orders'; pairs = pairs' } in y ≡ with_subscription now agent slot limit)
subscribed-shown now cells one two orders orders' pairs pairs' agent slot limit hold e w h c d o p =
    holdings-same two _ orders' _ pairs' _ (cells-subscribed cells one two slot agent limit w c d) (o ∙ ap (λ x. slice_set orders agent (with_last x (order_at orders agent) slot)) h) (p ∙ ap (λ x. more_by x pairs) h)
    ∙ ap (λ x. with_subscription x agent slot limit) e

-- and its orders
pub holding-subscribed : (cells one two : List Cell) (orders orders' : List SlotList) (agent slot limit : ℕ) (hold : Hold) → IsHolding cells orders → slot < length cells → agent < 128 → hold ≡ hold_at cells slot agent →
    one ≡ slice_set cells slot (with_hold (cell_at cells slot) agent Subscribed) → two ≡ slice_set one slot (with_limit (cell_at one slot) agent limit) → orders' ≡ slice_set orders agent (with_last hold (order_at orders agent) slot) → IsHolding two orders'
holding-subscribed cells one two orders orders' agent slot limit hold h w v e c d o =
    holding-subscribe cells two orders orders' agent slot limit h w v (cells-subscribed cells one two slot agent limit w c d) (o ∙ ap (λ x. slice_set orders agent (with_last x (order_at orders agent) slot)) e)

pub after_end-none : (keep : Bool) → is_subscribed (after_end keep) ≡ false
after_end-none true = refl
after_end-none false = refl
