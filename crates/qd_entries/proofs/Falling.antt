-- Entries that fall, round one of them.
use Rattle.std.proofs.Common.{◌≡◌, Bool, ℕ, ◌<◌, ◌≤◌, true, false, List, [], ◌∷◌, ◌++◌, refl, sym, ap, ◌∙◌, subst, arith, Option, Some, None}
use Rattle.std.specs.Prelude.{if◌then◌else◌, ◌==◌, nat_lt, nat_le}
use Rattle.std.proofs.lemmas.Bool.{lt-ltb, le-ltb, eq-eqb, ne_eqb, eqb-true, eqb-false, ltb-true, ltb-false}
use Rattle.std.proofs.lemmas.Bool.Decides.{nat_tests}
use Rattle.qd_entries.specs.declared.Entry.{Entry}
use Rattle.qd_scheme.specs.declared.cells.Cells.{Cells}
use Rattle.qd_entries.specs.Entries.{AllBelow, Falls, cells_at, put_entry, without_index, entry_at_or_below}

pub AllBelow-front : (i : ℕ) (xs ys : List Entry) → AllBelow i (xs ++ ys) → AllBelow i xs
AllBelow-front i [] ys h = tt
AllBelow-front i (x ∷ xs) ys h = (h.0, AllBelow-front i xs ys h.1)

pub AllBelow-back : (i : ℕ) (xs ys : List Entry) → AllBelow i (xs ++ ys) → AllBelow i ys
AllBelow-back i [] ys h = h
AllBelow-back i (x ∷ xs) ys h = AllBelow-back i xs ys h.1

pub AllBelow-append : (i : ℕ) (xs ys : List Entry) → AllBelow i xs → AllBelow i ys → AllBelow i (xs ++ ys)
AllBelow-append i [] ys h g = g
AllBelow-append i (x ∷ xs) ys h g = (h.0, AllBelow-append i xs ys h.1 g)

pub AllBelow-up : (i j : ℕ) (xs : List Entry) → i ≤ j → AllBelow i xs → AllBelow j xs
AllBelow-up i j [] le h = tt
AllBelow-up i j (x ∷ xs) le h = (let lt = h.0 in omega arith, AllBelow-up i j xs le h.1)

pub Falls-before : (b : List Entry) (e : Entry) (a : List Entry) → Falls (b ++ e ∷ a) → Falls b
Falls-before [] e a f = tt
Falls-before (x ∷ b) e a f = (AllBelow-front x.index b (e ∷ a) f.0, Falls-before b e a f.1)

pub Falls-after : (b : List Entry) (e : Entry) (a : List Entry) → Falls (b ++ e ∷ a) → Falls a
Falls-after [] e a f = f.1
Falls-after (x ∷ b) e a f = Falls-after b e a f.1

pub below-first : (x : Entry) (b : List Entry) (e : Entry) (a : List Entry) → Falls (x ∷ b ++ e ∷ a) → e.index < x.index
below-first x b e a f = (AllBelow-back x.index b (e ∷ a) f.0).0

-- the cells at an index above all entries
cells_at-above : (xs : List Entry) (i j : ℕ) → AllBelow i xs → i ≤ j → cells_at xs j ≡ None
cells_at-above [] i j h le = refl
cells_at-above (x ∷ xs) i j h le = let lt : x.index < i = h.0 in rw (ne_eqb x.index j (omega arith)) (cells_at-above xs i j h.1 le)

pub cells_at-after : (b : List Entry) (e : Entry) (a : List Entry) (i : ℕ) → Falls (b ++ e ∷ a) → i < e.index → cells_at (b ++ e ∷ a) i ≡ cells_at a i
cells_at-after [] e a i f h = rw (ne_eqb e.index i (omega arith)) refl
cells_at-after (x ∷ b) e a i f h =
    let lt : e.index < x.index = below-first x b e a f in rw (ne_eqb x.index i (omega arith)) (cells_at-after b e a i f.1 h)

pub cells_at-middle : (b : List Entry) (e : Entry) (a : List Entry) (i : ℕ) → Falls (b ++ e ∷ a) → i ≡ e.index → cells_at (b ++ e ∷ a) i ≡ Some e.cells
cells_at-middle [] e a i f h = rw (eq-eqb e.index i (sym h)) refl
cells_at-middle (x ∷ b) e a i f h =
    let lt : e.index < x.index = below-first x b e a f in rw (ne_eqb x.index i (omega arith)) (cells_at-middle b e a i f.1 h)

pub cells_at-before : (b : List Entry) (e : Entry) (a : List Entry) (i : ℕ) → Falls (b ++ e ∷ a) → e.index < i → cells_at (b ++ e ∷ a) i ≡ cells_at b i
cells_at-before [] e a i f h = rw (ne_eqb e.index i (omega arith)) (cells_at-above a e.index i f.0 (omega arith))
cells_at-before (x ∷ b) e a i f h = ap (λ (o : Option Cells). if x.index == i then Some x.cells else o) (cells_at-before b e a i f.1 h)

pub at_or_below-after : (b : List Entry) (e : Entry) (a : List Entry) (i : ℕ) → Falls (b ++ e ∷ a) → i < e.index → entry_at_or_below i (b ++ e ∷ a) ≡ entry_at_or_below i a
at_or_below-after [] e a i f h = grind (arith, nat_tests)
at_or_below-after (x ∷ b) e a i f h =
    let lt : e.index < x.index = below-first x b e a f in let r = at_or_below-after b e a i f.1 h in grind (arith, nat_tests, r)

pub at_or_below-before : (b : List Entry) (e : Entry) (a : List Entry) (i : ℕ) (x : Entry) → entry_at_or_below i b ≡ Some x → entry_at_or_below i (b ++ e ∷ a) ≡ Some x
at_or_below-before [] e a i x h = cc h
at_or_below-before (y ∷ b) e a i x h = go (nat_le y.index i) h (λ k. at_or_below-before b e a i x k)
  where
    go : (t : Bool) → (if t then Some y else entry_at_or_below i b) ≡ Some x → (entry_at_or_below i b ≡ Some x → entry_at_or_below i (b ++ e ∷ a) ≡ Some x)
        → (if t then Some y else entry_at_or_below i (b ++ e ∷ a)) ≡ Some x
    go true h ih = h
    go false h ih = ih h

pub at_or_below-middle : (b : List Entry) (e : Entry) (a : List Entry) (i : ℕ) → e.index ≤ i → entry_at_or_below i b ≡ None → entry_at_or_below i (b ++ e ∷ a) ≡ Some e
at_or_below-middle [] e a i le h = grind (arith, nat_tests)
at_or_below-middle (y ∷ b) e a i le h = go (nat_le y.index i) h (λ k. at_or_below-middle b e a i le k)
  where
    go : (t : Bool) → (if t then Some y else entry_at_or_below i b) ≡ None → (entry_at_or_below i b ≡ None → entry_at_or_below i (b ++ e ∷ a) ≡ Some e)
        → (if t then Some y else entry_at_or_below i (b ++ e ∷ a)) ≡ Some e
    go true h ih = cc h
    go false h ih = ih h

-- an entry is put in its place on one side, or over the one at its index
pub put_entry-after : (b : List Entry) (e : Entry) (a : List Entry) (x : Entry) → Falls (b ++ e ∷ a) → x.index < e.index → put_entry x (b ++ e ∷ a) ≡ b ++ e ∷ put_entry x a
put_entry-after [] e a x f h = rw (ne_eqb x.index e.index (omega arith), le-ltb e.index x.index (omega arith)) refl
put_entry-after (y ∷ b) e a x f h =
    let lt : e.index < y.index = below-first y b e a f in
    rw (ne_eqb x.index y.index (omega arith), le-ltb y.index x.index (omega arith)) (ap (λ (ys : List Entry). y ∷ ys) (put_entry-after b e a x f.1 h))

pub put_entry-middle : (b : List Entry) (e : Entry) (a : List Entry) (x : Entry) → Falls (b ++ e ∷ a) → x.index ≡ e.index → put_entry x (b ++ e ∷ a) ≡ b ++ x ∷ a
put_entry-middle [] e a x f h = rw (eq-eqb x.index e.index h) refl
put_entry-middle (y ∷ b) e a x f h =
    let lt : e.index < y.index = below-first y b e a f in
    rw (ne_eqb x.index y.index (omega arith), le-ltb y.index x.index (omega arith)) (ap (λ (ys : List Entry). y ∷ ys) (put_entry-middle b e a x f.1 h))

pub put_entry-before : (b : List Entry) (e : Entry) (a : List Entry) (x : Entry) → e.index < x.index → put_entry x (b ++ e ∷ a) ≡ put_entry x b ++ e ∷ a
put_entry-before [] e a x h = rw (ne_eqb x.index e.index (omega arith), lt-ltb e.index x.index h) refl
put_entry-before (y ∷ b) e a x h = go (x.index == y.index) (nat_lt y.index x.index) (put_entry-before b e a x h)
  where
    go : (s t : Bool) → put_entry x (b ++ e ∷ a) ≡ put_entry x b ++ e ∷ a → (if s then x ∷ b ++ e ∷ a else if t then x ∷ y ∷ b ++ e ∷ a else y ∷ put_entry x (b ++ e ∷ a)) ≡ (if s then x ∷ b else if t then x ∷ y ∷ b else y ∷ put_entry x b) ++ e ∷ a
    go true t ih = refl
    go false true ih = refl
    go false false ih = ap (λ (ys : List Entry). y ∷ ys) ih

pub without-after : (b : List Entry) (e : Entry) (a : List Entry) (i : ℕ) → Falls (b ++ e ∷ a) → i < e.index → without_index i (b ++ e ∷ a) ≡ b ++ e ∷ without_index i a
without-after [] e a i f h = rw (ne_eqb e.index i (omega arith)) refl
without-after (y ∷ b) e a i f h =
    let lt : e.index < y.index = below-first y b e a f in
    rw (ne_eqb y.index i (omega arith)) (ap (λ (ys : List Entry). y ∷ ys) (without-after b e a i f.1 h))

pub without-middle : (b : List Entry) (e : Entry) (a : List Entry) (i : ℕ) → Falls (b ++ e ∷ a) → i ≡ e.index → without_index i (b ++ e ∷ a) ≡ b ++ a
without-middle [] e a i f h = rw (eq-eqb e.index i (sym h)) refl
without-middle (y ∷ b) e a i f h =
    let lt : e.index < y.index = below-first y b e a f in
    rw (ne_eqb y.index i (omega arith)) (ap (λ (ys : List Entry). y ∷ ys) (without-middle b e a i f.1 h))

without-above : (xs : List Entry) (i j : ℕ) → AllBelow i xs → i ≤ j → without_index j xs ≡ xs
without-above [] i j h le = refl
without-above (x ∷ xs) i j h le = let lt : x.index < i = h.0 in rw (ne_eqb x.index j (omega arith)) (ap (λ (ys : List Entry). x ∷ ys) (without-above xs i j h.1 le))

pub without-before : (b : List Entry) (e : Entry) (a : List Entry) (i : ℕ) → Falls (b ++ e ∷ a) → e.index < i → without_index i (b ++ e ∷ a) ≡ without_index i b ++ e ∷ a
without-before [] e a i f h = rw (ne_eqb e.index i (omega arith)) (ap (λ (ys : List Entry). e ∷ ys) (without-above a e.index i f.0 (omega arith)))
without-before (y ∷ b) e a i f h = go (y.index == i) (without-before b e a i f.1 h)
  where
    go : (s : Bool) → without_index i (b ++ e ∷ a) ≡ without_index i b ++ e ∷ a → (if s then b ++ e ∷ a else y ∷ without_index i (b ++ e ∷ a)) ≡ (if s then b else y ∷ without_index i b) ++ e ∷ a
    go true ih = refl
    go false ih = ap (λ (ys : List Entry). y ∷ ys) ih

-- putting and taking keep the order
pub AllBelow-put_entry : (i : ℕ) (e : Entry) (xs : List Entry) → e.index < i → AllBelow i xs → AllBelow i (put_entry e xs)
AllBelow-put_entry i e [] h g = (h, tt)
AllBelow-put_entry i e (x ∷ xs) h g = go (e.index == x.index) (nat_lt x.index e.index) (AllBelow-put_entry i e xs h g.1)
  where
    go : (s t : Bool) → AllBelow i (put_entry e xs) → AllBelow i (if s then e ∷ xs else if t then e ∷ x ∷ xs else x ∷ put_entry e xs)
    go true t ih = (h, g.1)
    go false true ih = (h, g)
    go false false ih = (g.0, ih)

pub Falls-put_entry : (e : Entry) (xs : List Entry) → Falls xs → Falls (put_entry e xs)
Falls-put_entry e [] f = (tt, tt)
Falls-put_entry e (x ∷ xs) f = go (e.index == x.index) (nat_lt x.index e.index) refl refl (Falls-put_entry e xs f.1)
  where
    go : (s t : Bool) → (e.index == x.index) ≡ s → nat_lt x.index e.index ≡ t → Falls (put_entry e xs) → Falls (if s then e ∷ xs else if t then e ∷ x ∷ xs else x ∷ put_entry e xs)
    go true t p q ih = let same : e.index ≡ x.index = eqb-true e.index x.index p in (subst (λ (i : ℕ). AllBelow i xs) (sym same) f.0, f.1)
    go false true p q ih = let lt : x.index < e.index = ltb-true x.index e.index q in ((lt, AllBelow-up x.index e.index xs (omega arith) f.0), f)
    go false false p q ih =
        let le : e.index ≤ x.index = ltb-false x.index e.index q in
        let ne = eqb-false e.index x.index p in
        let lt : e.index < x.index = omega arith in
        (AllBelow-put_entry x.index e xs lt f.0, ih)

AllBelow-without : (i j : ℕ) (xs : List Entry) → AllBelow i xs → AllBelow i (without_index j xs)
AllBelow-without i j [] h = tt
AllBelow-without i j (x ∷ xs) h = go (x.index == j) (AllBelow-without i j xs h.1)
  where
    go : (s : Bool) → AllBelow i (without_index j xs) → AllBelow i (if s then xs else x ∷ without_index j xs)
    go true ih = h.1
    go false ih = (h.0, ih)

pub Falls-without : (j : ℕ) (xs : List Entry) → Falls xs → Falls (without_index j xs)
Falls-without j [] f = tt
Falls-without j (x ∷ xs) f = go (x.index == j) (Falls-without j xs f.1)
  where
    go : (s : Bool) → Falls (without_index j xs) → Falls (if s then xs else x ∷ without_index j xs)
    go true ih = f.1
    go false ih = (AllBelow-without x.index j xs f.0, ih)

-- what stands at an index after an entry was put, or one was taken out
pub cells_at-put_entry : (e : Entry) (xs : List Entry) (i : ℕ) → cells_at (put_entry e xs) i ≡ (if e.index == i then Some e.cells else cells_at xs i)
cells_at-put_entry e [] i = refl
cells_at-put_entry e (x ∷ xs) i = go (e.index == x.index) (nat_lt x.index e.index) refl (cells_at-put_entry e xs i)
  where
    same : (t u : Bool) → t ≡ u → (o : Option Cells) → (if t then Some e.cells else o) ≡ (if t then Some e.cells else if u then Some x.cells else o)
    same true u q o = refl
    same false true q o = cc q
    same false false q o = refl

    swap : (t u : Bool) → (t ≡ true → u ≡ true → ⊥) → (o : Option Cells)
        → (if u then Some x.cells else if t then Some e.cells else o) ≡ (if t then Some e.cells else if u then Some x.cells else o)
    swap true true n o = absurd (n refl refl)
    swap true false n o = refl
    swap false u n o = refl

    go : (s t : Bool) → (e.index == x.index) ≡ s → cells_at (put_entry e xs) i ≡ (if e.index == i then Some e.cells else cells_at xs i)
        → cells_at (if s then e ∷ xs else if t then e ∷ x ∷ xs else x ∷ put_entry e xs) i ≡ (if e.index == i then Some e.cells else if x.index == i then Some x.cells else cells_at xs i)
    go true t p ih = let k : e.index ≡ x.index = eqb-true e.index x.index p in same (e.index == i) (x.index == i) (ap (λ (j : ℕ). j == i) k) (cells_at xs i)
    go false true p ih = refl
    go false false p ih =
        let ne = eqb-false e.index x.index p in
        ap (λ (o : Option Cells). if x.index == i then Some x.cells else o) ih
        ∙ swap (e.index == i) (x.index == i) (λ a b. ne (eqb-true e.index i a ∙ sym (eqb-true x.index i b))) (cells_at xs i)

pub cells_at-without : (j : ℕ) (xs : List Entry) (i : ℕ) → Falls xs → cells_at (without_index j xs) i ≡ (if j == i then None else cells_at xs i)
cells_at-without j [] i f = none (j == i)
  where
    none : (t : Bool) → ◌≡◌ {A = Option Cells} None (if t then None else None)
    none true = refl
    none false = refl
cells_at-without j (x ∷ xs) i f = go (x.index == j) (j == i) refl refl (cells_at-without j xs i f.1)
  where
    go : (s t : Bool) → (x.index == j) ≡ s → (j == i) ≡ t → cells_at (without_index j xs) i ≡ (if j == i then None else cells_at xs i)
        → cells_at (if s then xs else x ∷ without_index j xs) i ≡ (if t then None else if x.index == i then Some x.cells else cells_at xs i)
    go true true p q ih = let k : x.index ≡ j = eqb-true x.index j p in let l : j ≡ i = eqb-true j i q in cells_at-above xs x.index i f.0 (omega arith)
    go true false p q ih = let k : x.index ≡ j = eqb-true x.index j p in let l = eqb-false j i q in rw (ne_eqb x.index i (omega arith)) refl
    go false true p q ih =
        let k = eqb-false x.index j p in let l : j ≡ i = eqb-true j i q in
        rw (ne_eqb x.index i (omega arith)) (ih ∙ ap (λ (t : Bool). if t then None else cells_at xs i) q)
    go false false p q ih = ap (λ (o : Option Cells). if x.index == i then Some x.cells else o) (ih ∙ ap (λ (t : Bool). if t then None else cells_at xs i) q)
