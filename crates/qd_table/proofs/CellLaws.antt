-- What is read off the cells is what the table says.
use Rattle.std.proofs.Common.{◌≡◌, inl, inr, ℕ, zero, suc, ◌+◌, ◌-◌, ◌<◌, ◌≤◌, Bool, true, false, ◌||◌, if◌then◌else◌, nat_eq, Option, Some, None, is_some, IfSome, IfNone, List, [], ◌∷◌, length, drop, slice_index, slice_index_or, refl, ap, sym, ◌∙◌, arith}
use Rattle.std.proofs.lemmas.Bool.Decides.{nat_tests}
use Rattle.std.proofs.lemmas.List.{get_or_past, get_or-drop}
use Rattle.std.proofs.lemmas.List.Folds.{list_any_at}
use Rattle.std.specs.List.{list_any, filter_map, cons_option}
use Rattle.qd_scheme.specs.declared.key.Key.{Key}
use Rattle.qd_pend.specs.Slots.{has, first_in}
use Rattle.qd_pend.proofs.ListLaws.{same, equal, has-here}
use Rattle.qd_sub.proofs.HeldLaws.{least-same}
use Rattle.qd_slots.specs.declared.holds.Hold.{Hold}
use Rattle.qd_slots.specs.declared.holds.Hold.TheVariants.{Free}
use Rattle.qd_slots.specs.declared.holds.Cell.{Cell}
use Rattle.qd_slots.specs.Holds.{cell_at, order_at, hold_at, hold_in, limit_in, limits_of, total_in, is_subscribed, is_held, is_kept, is_held_cell, is_wanted_cell, subscribed_from}
use Rattle.qd_slots.specs.Views.{no_viewing, view_at, is_known_by}
use Rattle.qd_slots.proofs.NameLaws.{below-or-not}
use Rattle.qd_table.specs.Tables.{Table, slots_in, key_at, slot_for, below, hold_for, limit_for, order_of, total_for, is_wanted_slot, view_for, is_used}
use Rattle.qd_table.specs.Steps.{IsNextAgent}
use Rattle.qd_table.specs.Stored.{Store, table_of, IsStored}
use Rattle.qd_table.proofs.TableLaws.{or-left, or-right, or-cases, same-truth, true-false, some-none, some-same, below-any, below-found, key_at-within, key_at-found, key_at-subscribed, unused, unused-hold, unused-limit}
use Rattle.qd_table.proofs.StandLaws.{unused-total, total_for-some}

-- a test of some item, by places
any-at : {X : Type 0} (p : X → Bool) (xs : List X) (d : X) → list_any p xs ≡ true → (i : ℕ) × (i < length xs) × (p (slice_index_or xs i d) ≡ true)
any-at p [] d h = absurd (true-false (sym h))
any-at p (x ∷ xs) d h = elim (or-cases (p x) (list_any p xs) h) [
  | inl t ↦ (0, omega arith, t)
  | inr t ↦ (let f = any-at p xs d t in let l = f.1 in (suc f.0, omega (arith, l), f.2))
]

pub any-below : {X : Type 0} (p : X → Bool) (xs : List X) (d : X) (n : ℕ) → length xs ≡ n → list_any p xs ≡ list_any (λ i. p (slice_index_or xs i d)) (below n)
any-below p xs d n e = same-truth (list_any p xs) (list_any (λ i. p (slice_index_or xs i d)) (below n))
    (λ h. let f = any-at p xs d h in let l = f.1 in below-any (λ i. p (slice_index_or xs i d)) n f.0 (omega (arith, l, e)) f.2)
    (λ h. let f = below-found (λ i. p (slice_index_or xs i d)) n h in let l = f.1 in list_any_at p xs f.0 d (omega (arith, l, e)) f.2)

-- a slot with a number is a cell's
pub cell-within : {s : Store} → IsStored s → (slot : ℕ) → slot < length s.names.names → slot < length s.holdings.cells
cell-within inv slot l = let c = inv.cells in omega arith

pub holds-full : {s : Store} → IsStored s → (slot : ℕ) → slot < length s.names.names → length (cell_at s.holdings.cells slot).holds ≡ 128
holds-full inv slot l = inv.holding.full slot (cell-within inv slot l)

pub wanted-cell : {s : Store} → IsStored s → (slot : ℕ) → slot < length s.holdings.cells → is_wanted_cell (cell_at s.holdings.cells slot) ≡ is_wanted_slot (table_of s) slot
unfolding is_wanted_slot hold_for
wanted-cell {s} inv slot l = any-below is_subscribed (cell_at s.holdings.cells slot).holds Free 128 (inv.holding.full slot l)

-- what is used
pub used-of : (s : Store) (slot : ℕ) → length (cell_at s.holdings.cells slot).holds ≡ 128 → length s.viewings ≡ 8 → is_used (table_of s) slot ≡ (is_held_cell (cell_at s.holdings.cells slot) || is_known_by s.viewings slot)
unfolding is_used hold_for view_for
used-of s slot e f =
    sym (ap (λ c. c || is_known_by s.viewings slot) (any-below is_held (cell_at s.holdings.cells slot).holds Free 128 e)
    ∙ ap (λ c. list_any (λ i. is_held (slice_index_or (cell_at s.holdings.cells slot).holds i Free)) (below 128) || c) (any-below (λ v. is_some (view_at v.views slot).known) s.viewings no_viewing 8 f))

-- totals
abbrev stands_in : List ℕ → ℕ → Bool
stands_in ns n = list_any (nat_eq n) ns

limits-there : (holds : List Hold) (limits : List ℕ) (i : ℕ) → i < length holds → length holds ≡ length limits → is_subscribed (slice_index_or holds i Free) ≡ true → stands_in (limits_of holds limits) (slice_index limits i) ≡ true
unfolding limits_of
limits-there [] limits i l e h = absurd (omega arith)
limits-there (x ∷ holds) [] i l e h = absurd (omega arith)
limits-there (x ∷ holds) (n ∷ limits) zero l e h = ap (λ c. stands_in (if c then n ∷ limits_of holds limits else limits_of holds limits) n) h ∙ or-left (nat_eq n n) (stands_in (limits_of holds limits) n) (same n)
limits-there (x ∷ holds) (n ∷ limits) (suc i) l e h =
    let rest = limits-there holds limits i (omega (arith, l)) (omega (arith, e)) h in
    elim (is_subscribed x) as (λ c. stands_in (if c then n ∷ limits_of holds limits else limits_of holds limits) (slice_index limits i) ≡ true) [ true ↦ or-right (nat_eq (slice_index limits i) n) (stands_in (limits_of holds limits) (slice_index limits i)) rest | false ↦ rest ]

limits-from : (holds : List Hold) (limits : List ℕ) (n : ℕ) → stands_in (limits_of holds limits) n ≡ true → (i : ℕ) × (i < length holds) × (is_subscribed (slice_index_or holds i Free) ≡ true) × (slice_index limits i ≡ n)
unfolding limits_of
limits-from [] limits n h = absurd (true-false (sym h))
limits-from (x ∷ holds) [] n h = absurd (true-false (sym h))
limits-from (x ∷ holds) (m ∷ limits) n h =
    let go : (c : Bool) → is_subscribed x ≡ c → stands_in (if c then m ∷ limits_of holds limits else limits_of holds limits) n ≡ true → (i : ℕ) × (i < suc (length holds)) × (is_subscribed (slice_index_or (x ∷ holds) i Free) ≡ true) × (slice_index (m ∷ limits) i ≡ n) =
    elim [
      | true ↦ λ e t. elim (or-cases (nat_eq n m) (stands_in (limits_of holds limits) n) t) [
        | inl g ↦ (0, omega arith, e, sym (equal n m g))
        | inr g ↦ (let f = limits-from holds limits n g in let l = f.1 in (suc f.0, omega (arith, l), f.2, f.3))
      ]
      | false ↦ λ e t. (let f = limits-from holds limits n t in let l = f.1 in (suc f.0, omega (arith, l), f.2, f.3))
    ] in
    go (is_subscribed x) refl h

next-below : (a n : ℕ) → a < suc n → nat_eq a n ≡ false → a < n
next-below a n h e = grind (arith, nat_tests)

given-there : (f : ℕ → Option ℕ) (n a m : ℕ) → a < n → f a ≡ Some m → stands_in (filter_map f (below n)) m ≡ true
unfolding below
given-there f zero a m l e = absurd (omega arith)
given-there f (suc n) a m l e =
    let go : (c : Bool) → nat_eq a n ≡ c → stands_in (cons_option (f n) (filter_map f (below n))) m ≡ true =
    elim [
      | true ↦ λ g. ap (λ o. stands_in (cons_option o (filter_map f (below n))) m) (ap f (sym (equal a n g)) ∙ e) ∙ or-left (nat_eq m m) (stands_in (filter_map f (below n)) m) (same m)
      | false ↦ λ g. later (f n) (given-there f n a m (next-below a n l g) e)
    ] in
    go (nat_eq a n) refl
  where
    later : (o : Option ℕ) → stands_in (filter_map f (below n)) m ≡ true → stands_in (cons_option o (filter_map f (below n))) m ≡ true
    later None t = t
    later (Some k) t = or-right (nat_eq m k) (stands_in (filter_map f (below n)) m) t

given-from : (f : ℕ → Option ℕ) (n m : ℕ) → stands_in (filter_map f (below n)) m ≡ true → (a : ℕ) × (a < n) × (f a ≡ Some m)
unfolding below
given-from f zero m h = absurd (true-false (sym h))
given-from f (suc n) m h =
    let go : (o : Option ℕ) → f n ≡ o → stands_in (cons_option o (filter_map f (below n))) m ≡ true → (a : ℕ) × (a < suc n) × (f a ≡ Some m) =
    elim [
      | None ↦ λ e t. (let g = given-from f n m t in let l = g.1 in (g.0, omega (arith, l), g.2))
      | Some k ↦ λ e t. elim (or-cases (nat_eq m k) (stands_in (filter_map f (below n)) m) t) [
        | inl q ↦ (n, omega arith, e ∙ ap (λ x. let o : Option ℕ = Some x in o) (sym (equal m k q)))
        | inr q ↦ (let g = given-from f n m q in let l = g.1 in (g.0, omega (arith, l), g.2))
      ]
    ] in
    go (f n) refl h

limit-there : (cell : Cell) (a : ℕ) → is_subscribed (hold_in cell a) ≡ true → limit_in cell a ≡ Some (slice_index cell.limits a)
limit-there cell a h = ap (λ c. if c then Some (slice_index cell.limits a) else None) h

limit-from : (cell : Cell) (a m : ℕ) → limit_in cell a ≡ Some m → (is_subscribed (hold_in cell a) ≡ true) × (slice_index cell.limits a ≡ m)
limit-from cell a m h =
    let go : (c : Bool) → is_subscribed (hold_in cell a) ≡ c → (let o : Option ℕ = if c then Some (slice_index cell.limits a) else None in o ≡ Some m) → (is_subscribed (hold_in cell a) ≡ true) × (slice_index cell.limits a ≡ m) =
    elim [
      | true ↦ λ e t. (e, some-same (slice_index cell.limits a) m t)
      | false ↦ λ e t. absurd (some-none m (sym t))
    ] in
    go (is_subscribed (hold_in cell a)) refl h

pub total-of : (s : Store) (slot : ℕ) → length (cell_at s.holdings.cells slot).holds ≡ 128 → length (cell_at s.holdings.cells slot).limits ≡ 128 → total_in (cell_at s.holdings.cells slot) ≡ total_for (table_of s) slot
unfolding total_for limit_for
total-of s slot full limited =
    least-same (limits_of (cell_at s.holdings.cells slot).holds (cell_at s.holdings.cells slot).limits) (filter_map (λ a. limit_in (cell_at s.holdings.cells slot) a) (below 128))
    (λ n. same-truth _ _
    (λ t. let f = limits-from (cell_at s.holdings.cells slot).holds (cell_at s.holdings.cells slot).limits n t in let b = f.1 in
    given-there (λ a. limit_in (cell_at s.holdings.cells slot) a) 128 f.0 n (omega (arith, b, full)) (limit-there (cell_at s.holdings.cells slot) f.0 f.2 ∙ ap (λ x. let o : Option ℕ = Some x in o) f.3))
    (λ t. let f = given-from (λ a. limit_in (cell_at s.holdings.cells slot) a) 128 n t in let b = f.1 in let g = limit-from (cell_at s.holdings.cells slot) f.0 n f.2 in
    ap (stands_in (limits_of (cell_at s.holdings.cells slot).holds (cell_at s.holdings.cells slot).limits)) (sym g.1)
    ∙ limits-there (cell_at s.holdings.cells slot).holds (cell_at s.holdings.cells slot).limits f.0 (omega (arith, b, full)) (full ∙ sym limited) g.0))

pub total-cell : {s : Store} → IsStored s → (slot : ℕ) → slot < length s.holdings.cells → total_in (cell_at s.holdings.cells slot) ≡ total_for (table_of s) slot
total-cell {s} inv slot l = total-of s slot (inv.holding.full slot l) (inv.limited slot l)

-- the next agent
next-some : (holds : List Hold) (n b : ℕ) → subscribed_from n holds ≡ Some b → (n ≤ b) × (b < n + length holds) × (is_subscribed (slice_index_or holds (b - n) Free) ≡ true) × ((c : ℕ) → n ≤ c → c < b → is_subscribed (slice_index_or holds (c - n) Free) ≡ false)
unfolding subscribed_from
next-some [] n b h = absurd (some-none b (sym h))
next-some (x ∷ holds) n b h =
    let go : (c : Bool) → is_subscribed x ≡ c → (let o : Option ℕ = if c then Some n else subscribed_from (suc n) holds in o ≡ Some b) → (n ≤ b) × (b < n + suc (length holds)) × (is_subscribed (slice_index_or (x ∷ holds) (b - n) Free) ≡ true) × ((c : ℕ) → n ≤ c → c < b → is_subscribed (slice_index_or (x ∷ holds) (c - n) Free) ≡ false) =
    elim [
      | true ↦ λ e t. (let same_place : n ≡ b = some-same n b t in let z : b - n ≡ 0 = omega (arith, same_place) in
          (omega (arith, same_place), omega (arith, same_place), ap (λ i. is_subscribed (slice_index_or (x ∷ holds) i Free)) z ∙ e, λ c p q. absurd (omega (arith, same_place, p, q))))
      | false ↦ λ e t. (let f = next-some holds (suc n) b t in let p = f.0 in let q = f.1 in let z : b - n ≡ suc (b - suc n) = omega (arith, p) in
          (omega (arith, p), omega (arith, q), ap (λ i. is_subscribed (slice_index_or (x ∷ holds) i Free)) z ∙ f.2, λ c u v. before c u v e f.3))
    ] in
    go (is_subscribed x) refl h
  where
    before : (c : ℕ) → n ≤ c → c < b → is_subscribed x ≡ false → ((d : ℕ) → suc n ≤ d → d < b → is_subscribed (slice_index_or holds (d - suc n) Free) ≡ false) → is_subscribed (slice_index_or (x ∷ holds) (c - n) Free) ≡ false
    before c u v e rest = elim (below-or-not n c) [
      | inl w ↦ (let z : c - n ≡ suc (c - suc n) = omega (arith, w) in ap (λ i. is_subscribed (slice_index_or (x ∷ holds) i Free)) z ∙ rest c w v)
      | inr w ↦ (let z : c - n ≡ 0 = omega (arith, w, u) in ap (λ i. is_subscribed (slice_index_or (x ∷ holds) i Free)) z ∙ e)
    ]

none-at : (x : Hold) (holds : List Hold) (i : ℕ) → is_subscribed x ≡ false → ((j : ℕ) → is_subscribed (slice_index_or holds j Free) ≡ false) → is_subscribed (slice_index_or (x ∷ holds) i Free) ≡ false
none-at x holds zero e rest = e
none-at x holds (suc j) e rest = rest j

next-none : (holds : List Hold) (n : ℕ) → subscribed_from n holds ≡ None → (i : ℕ) → is_subscribed (slice_index_or holds i Free) ≡ false
unfolding subscribed_from
next-none [] n h i = refl
next-none (x ∷ holds) n h i =
    let go : (c : Bool) → is_subscribed x ≡ c → (let o : Option ℕ = if c then Some n else subscribed_from (suc n) holds in o ≡ None) → is_subscribed (slice_index_or (x ∷ holds) i Free) ≡ false =
    elim [
      | true ↦ λ e t. absurd (some-none n t)
      | false ↦ λ e t. none-at x holds i e (next-none holds (suc n) t)
    ] in
    go (is_subscribed x) refl h

at-from : (xs : List Hold) (n b : ℕ) → n ≤ b → is_subscribed (slice_index_or (drop n xs) (b - n) Free) ≡ is_subscribed (slice_index_or xs b Free)
at-from xs n b l = let e : n + (b - n) ≡ b = omega (arith, l) in ap is_subscribed (get_or-drop n xs (b - n) Free ∙ ap (λ i. slice_index_or xs i Free) e)

agent-below : {s : Store} → IsStored s → (slot b : ℕ) → is_subscribed (hold_at s.holdings.cells slot b) ≡ true → b < 128
unfolding hold_for
agent-below inv slot b h = elim (below-or-not b 128) [
  | inl l ↦ l
  | inr m ↦ absurd (true-false (sym h ∙ ap is_subscribed (inv.sound.agents b slot m)))
]

pub next-agent : {s : Store} → IsStored s → (slot from : ℕ) (o : Option ℕ) → slot < length s.holdings.cells → o ≡ subscribed_from from (drop from (cell_at s.holdings.cells slot).holds) → IfSome o (λ b. IsNextAgent (table_of s) slot from b)
unfolding hold_for
next-agent inv slot from None l e = tt
next-agent {s} inv slot from (Some b) l e =
    let f = next-some (drop from (cell_at s.holdings.cells slot).holds) from b (sym e) in
    record {
      within = agent-below inv slot b (sym (at-from (cell_at s.holdings.cells slot).holds from b f.0) ∙ f.2);
      after = f.0;
      subscribed = sym (at-from (cell_at s.holdings.cells slot).holds from b f.0) ∙ f.2;
      none_before = λ c u v. sym (at-from (cell_at s.holdings.cells slot).holds from c u) ∙ f.3 c u v;
    }

pub no-next-agent : {s : Store} → IsStored s → (slot from : ℕ) (o : Option ℕ) → slot < length s.holdings.cells → o ≡ subscribed_from from (drop from (cell_at s.holdings.cells slot).holds) → IfNone o ((c : ℕ) → from ≤ c → is_subscribed (hold_for (table_of s) c slot) ≡ false)
unfolding hold_for
no-next-agent {s} inv slot from None l e = λ c u. sym (at-from (cell_at s.holdings.cells slot).holds from c u) ∙ next-none (drop from (cell_at s.holdings.cells slot).holds) from (sym e) (c - from)
no-next-agent inv slot from (Some b) l e = tt

-- beyond all slots there is nothing
beyond-unused : {s : Store} → IsStored s → (slot : ℕ) → length s.names.names ≤ slot → is_used (table_of s) slot ≡ false
unfolding key_at
beyond-unused {s} inv slot l = unused (table_of s) slot inv.sound (get_or_past s.names.names slot None l)

pub beyond-hold : {s : Store} → IsStored s → (a slot : ℕ) → length s.names.names ≤ slot → hold_for (table_of s) a slot ≡ Free
beyond-hold {s} inv a slot l = unused-hold (table_of s) a slot inv.sound (beyond-unused inv slot l)

pub beyond-limit : {s : Store} → IsStored s → (a slot : ℕ) → length s.names.names ≤ slot → limit_for (table_of s) a slot ≡ None
beyond-limit {s} inv a slot l = unused-limit (table_of s) a slot inv.sound (beyond-unused inv slot l)

pub beyond-total : {s : Store} → IsStored s → (slot : ℕ) → length s.names.names ≤ slot → total_for (table_of s) slot ≡ None
beyond-total {s} inv slot l = unused-total (table_of s) slot inv.sound (beyond-unused inv slot l)

pub beyond-wanted : {s : Store} → IsStored s → (slot : ℕ) → length s.names.names ≤ slot → is_wanted_slot (table_of s) slot ≡ false
beyond-wanted {s} inv slot l = sym (total_for-some (table_of s) slot) ∙ ap is_some (beyond-total inv slot l)

-- a slot of which anything is known has a number
pub slot-within : {s : Store} → IsStored s → (a slot : ℕ) → is_subscribed (hold_for (table_of s) a slot) ≡ true → slot < length s.names.names
unfolding slots_in
slot-within {s} inv a slot h = let f = key_at-subscribed (table_of s) a slot inv.sound h in key_at-within (table_of s) slot f.0 f.1

-- answers about keys
pub some-within : (t : Table) (k : Key) (o : Option ℕ) → o ≡ slot_for t k → IfSome o (λ slot. slot < slots_in t)
some-within t k None e = tt
some-within t k (Some slot) e = key_at-within t slot k (key_at-found t k slot (sym e))

pub some-named : (t : Table) (k : Key) (o : Option ℕ) → o ≡ slot_for t k → IfSome o (λ slot. key_at t slot ≡ Some k)
some-named t k None e = tt
some-named t k (Some slot) e = key_at-found t k slot (sym e)

-- the first of a list is in it
first-has : (list : List ℕ) (slot : ℕ) → first_in list ≡ Some slot → has list slot ≡ true
first-has [] slot e = absurd (some-none slot (sym e))
first-has (x ∷ list) slot e = ap (has (x ∷ list)) (sym (some-same x slot e)) ∙ has-here x list

first-none : (list : List ℕ) (slot : ℕ) → first_in list ≡ None → has list slot ≡ false
first-none [] slot e = refl
first-none (x ∷ list) slot e = absurd (some-none x e)

pub first-subscribed : {s : Store} → IsStored s → (a : ℕ) (o : Option ℕ) → o ≡ first_in (order_at s.holdings.orders a).list → IfSome o (λ slot. is_subscribed (hold_for (table_of s) a slot) ≡ true)
unfolding order_of
first-subscribed inv a None e = tt
first-subscribed {s} inv a (Some slot) e = sym (inv.sound.ordered a slot) ∙ first-has (order_at s.holdings.orders a).list slot (sym e)

pub first-kept : {s : Store} → IsStored s → (a : ℕ) (o : Option ℕ) → o ≡ first_in (order_at s.kept a).list → IfSome o (λ slot. is_kept (hold_for (table_of s) a slot) ≡ true)
unfolding hold_for
first-kept inv a None e = tt
first-kept {s} inv a (Some slot) e = sym (inv.kept a slot) ∙ first-has (order_at s.kept a).list slot (sym e)

pub first-unkept : {s : Store} → IsStored s → (a : ℕ) (o : Option ℕ) → o ≡ first_in (order_at s.kept a).list → IfNone o ((slot : ℕ) → is_kept (hold_for (table_of s) a slot) ≡ false)
unfolding hold_for
first-unkept {s} inv a None e = λ slot. sym (inv.kept a slot) ∙ first-none (order_at s.kept a).list slot (sym e)
first-unkept inv a (Some slot) e = tt
