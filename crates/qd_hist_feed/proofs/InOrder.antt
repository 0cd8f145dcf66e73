-- The share of a commit in order, and what a sweep owes of it.
use Rattle.std.proofs.Common.{◌≡◌, ℕ, ◌+◌, ◌<◌, ◌≤◌, Bool, true, false, ◌&&◌, ◌||◌, ◌==◌, List, [], ◌∷◌, ◌++◌, length, length-append, reverse, refl, sym, ◌∙◌, ap, arith, append_assoc, cond, Option, Some, None, subst, inl, inr}
use Rattle.std.specs.Prelude.{if◌then◌else◌, ◌⊎◌, nat_le, nat_lt, filter}
use Rattle.std.specs.List.{list_any}
use Rattle.std.proofs.lemmas.Bool.{cases_Bool, eq-eqb, ne_eqb, and_from, ltb-true, ltb-false}
use Rattle.std.proofs.lemmas.List.{reverse-append}
use Rattle.std.proofs.lemmas.List.Sums.{sum_by-cons, sum_by-append}
use Rattle.std.proofs.Math.Bool.{or-true, or-false}
use Rattle.qd_scheme.specs.declared.key.Event.{Event}
use Rattle.qd_scheme.specs.declared.cells.Cells.{Cells}
use Rattle.qd_flags.specs.Bits.{is_begin, is_remove}
use Rattle.qd_flags.specs.Shown.{Map, ends}
use Rattle.qd_flags.specs.Following.{over}
use Rattle.qd_hist_rules.specs.declared.item.HistItem.{HistItem}
use Rattle.qd_hist_rules.specs.Agent.{passed, passed_all, numbered, with_item, with_items}
use Rattle.qd_hist_rules.specs.Lawful.{is_event, same_cells, bare_flags, at_index}
use Rattle.qd_hist_rules.proofs.Passed.{passed_begin, passed_ends, passed_bare}
use Rattle.qd_hist_rules.proofs.Serve.{held_items, held_item, last_item, run_append}
use Rattle.qd_hist_rules.proofs.SnapshotItems.{same_cells_refl}
use Rattle.qd_hist_feed.specs.declared.feed.Stage.{Stage}
use Rattle.qd_hist_feed.specs.declared.feed.Stage.TheVariants.{Waiting, Sweeping, Ended}
use Rattle.qd_hist_feed.specs.Feeding.{is_swept, number_for, has_above, item_of, owed_item, owed_items}
use Rattle.qd_hist_feed.specs.Stands.{AllOwed}

-- the items of a share, in order
abbrev pub share_items : ℕ → Option ℕ → List Event → List HistItem
share_items f n [] = []
share_items f n (e ∷ es) = (if nat_le f e.index then item_of n (has_above f es) e ∷ [] else []) ++ share_items f n es

abbrev at_or_above : ℕ → List Event → List Event
at_or_above f es = filter (λ e. nat_le f e.index) es

-- all of them as if more came
abbrev held_of : ℕ → List Event → List HistItem
held_of f [] = []
held_of f (e ∷ es) = (if nat_le f e.index then held_item e ∷ [] else []) ++ held_of f es

above_append : (f : ℕ) (xs : List Event) (e : Event) → has_above f (xs ++ e ∷ []) ≡ (has_above f xs || nat_le f e.index)
above_append f [] e = go (nat_le f e.index)
  where
    go : (b : Bool) → (b || false) ≡ (false || b)
    go true = refl
    go false = refl
above_append f (x ∷ xs) e = ap (λ (b : Bool). nat_le f x.index || b) (above_append f xs e) ∙ go (nat_le f x.index)
  where
    go : (b : Bool) → (b || (has_above f xs || nat_le f e.index)) ≡ ((b || has_above f xs) || nat_le f e.index)
    go true = refl
    go false = refl

-- one more event that is at or above the floor comes last, and makes those before it pending
share_last : (f : ℕ) (n : Option ℕ) (xs : List Event) (e : Event) → nat_le f e.index ≡ true → share_items f n (xs ++ e ∷ []) ≡ held_of f xs ++ item_of n false e ∷ []
share_last f n [] e h = ap (λ (b : Bool). (if b then item_of n false e ∷ [] else []) ++ []) h
share_last f n (x ∷ xs) e h =
    let pending : has_above f (xs ++ e ∷ []) ≡ true = above_append f xs e ∙ ap (λ (b : Bool). has_above f xs || b) h ∙ or-true (has_above f xs) in
    ap (λ (b : Bool). (if nat_le f x.index then item_of n b x ∷ [] else []) ++ share_items f n (xs ++ e ∷ [])) pending
    ∙ ap (λ (ys : List HistItem). (if nat_le f x.index then held_item x ∷ [] else []) ++ ys) (share_last f n xs e h)
    ∙ sym (append_assoc (if nat_le f x.index then held_item x ∷ [] else []) (held_of f xs) (item_of n false e ∷ []))

-- one that is below it changes nothing
share_below : (f : ℕ) (n : Option ℕ) (xs : List Event) (e : Event) → nat_le f e.index ≡ false → share_items f n (xs ++ e ∷ []) ≡ share_items f n xs
share_below f n [] e h = ap (λ (b : Bool). (if b then item_of n false e ∷ [] else []) ++ []) h
share_below f n (x ∷ xs) e h =
    let same : has_above f (xs ++ e ∷ []) ≡ has_above f xs = above_append f xs e ∙ ap (λ (b : Bool). has_above f xs || b) h ∙ or-false (has_above f xs) in
    ap (λ (b : Bool). (if nat_le f x.index then item_of n b x ∷ [] else []) ++ share_items f n (xs ++ e ∷ [])) same
    ∙ ap (λ (ys : List HistItem). (if nat_le f x.index then item_of n (has_above f xs) x ∷ [] else []) ++ ys) (share_below f n xs e h)

held_append : (f : ℕ) (xs : List Event) (e : Event) → held_of f (xs ++ e ∷ []) ≡ held_of f xs ++ (if nat_le f e.index then held_item e ∷ [] else [])
held_append f [] e = go (nat_le f e.index)
  where
    go : (b : Bool) → (if b then held_item e ∷ [] else []) ++ [] ≡ [] ++ (if b then held_item e ∷ [] else [])
    go true = refl
    go false = refl
held_append f (x ∷ xs) e =
    ap (λ (ys : List HistItem). (if nat_le f x.index then held_item x ∷ [] else []) ++ ys) (held_append f xs e)
    ∙ sym (append_assoc (if nat_le f x.index then held_item x ∷ [] else []) (held_of f xs) (if nat_le f e.index then held_item e ∷ [] else []))

held_reverse : (f : ℕ) (es : List Event) → held_of f (reverse es) ≡ reverse (held_items (at_or_above f es))
held_reverse f [] = refl
held_reverse f (e ∷ es) =
    ap (λ (xs : List Event). held_of f xs) (reverse-append (e ∷ []) es) ∙ held_append f (reverse es) e
    ∙ ap (λ (ys : List HistItem). ys ++ (if nat_le f e.index then held_item e ∷ [] else [])) (held_reverse f es) ∙ go (nat_le f e.index)
  where
    rest : List HistItem
    rest = reverse (held_items (at_or_above f es))

    nil : (ys : List HistItem) → ys ++ [] ≡ ys
    nil [] = refl
    nil (y ∷ ys) = ap (λ (zs : List HistItem). y ∷ zs) (nil ys)

    go : (b : Bool) → reverse (held_items (at_or_above f es)) ++ (if b then held_item e ∷ [] else []) ≡ reverse (held_items (if b then e ∷ at_or_above f es else at_or_above f es))
    go true = sym (reverse-append (held_item e ∷ []) (held_items (at_or_above f es)))
    go false = nil (reverse (held_items (at_or_above f es)))

-- the share of a commit in order is its share
pub share_in_order : (f n : ℕ) (es : List Event) → share_items f (Some n) (reverse es) ≡ reverse (numbered n (passed_all (at_or_above f es)))
share_in_order f n [] = refl
share_in_order f n (e ∷ es) = ap (λ (xs : List Event). share_items f (Some n) xs) (reverse-append (e ∷ []) es) ∙ go (cases_Bool (nat_le f e.index)) (share_in_order f n es)
  where
    go : (nat_le f e.index ≡ true) ⊎ (nat_le f e.index ≡ false) → share_items f (Some n) (reverse es) ≡ reverse (numbered n (passed_all (at_or_above f es)))
        → share_items f (Some n) (reverse es ++ e ∷ []) ≡ reverse (numbered n (passed_all (at_or_above f (e ∷ es))))
    go (inl h) ih =
        share_last f (Some n) (reverse es) e h ∙ ap (λ (ys : List HistItem). ys ++ last_item n e ∷ []) (held_reverse f es)
        ∙ sym (reverse-append (last_item n e ∷ []) (held_items (at_or_above f es)))
        ∙ sym (ap (λ (b : Bool). reverse (numbered n (passed_all (if b then e ∷ at_or_above f es else at_or_above f es)))) h)
    go (inr h) ih =
        share_below f (Some n) (reverse es) e h ∙ ih
        ∙ sym (ap (λ (b : Bool). reverse (numbered n (passed_all (if b then e ∷ at_or_above f es else at_or_above f es)))) h)

-- after the end of a snapshot the whole share is owed
pub owed_whole : (f n : ℕ) (es : List Event) → owed_items Ended f n es ≡ share_items f (Some n) es
owed_whole f n [] = refl
owed_whole f n (e ∷ es) =
    ap (λ (ys : List HistItem). owed_item Ended f (Some n) (has_above f es) e ++ ys) (owed_whole f n es)
    ∙ ap (λ (b : Bool). (if b then item_of (Some n) (has_above f es) e ∷ [] else []) ++ share_items f (Some n) es) (go (nat_le f e.index))
  where
    go : (b : Bool) → (b && true) ≡ b
    go true = refl
    go false = refl

pub none_waiting : (f n : ℕ) (es : List Event) → owed_items Waiting f n es ≡ []
none_waiting f n [] = refl
none_waiting f n (e ∷ es) = ap (λ (b : Bool). (if b then item_of None (has_above f es) e ∷ [] else []) ++ owed_items Waiting f n es) (go (nat_le f e.index)) ∙ none_waiting f n es
  where
    go : (b : Bool) → (b && false) ≡ false
    go true = refl
    go false = refl

-- counts of the items at an index
pub at_cons : (q : ℕ) (d : HistItem) (ds : List HistItem) → at_index q (d ∷ ds) ≡ cond (d.event.index == q) 1 0 + at_index q ds
at_cons q d ds = sum_by-cons (λ (x : HistItem). cond (x.event.index == q) 1 0) d ds

pub at_append : (q : ℕ) (xs ys : List HistItem) → at_index q (xs ++ ys) ≡ at_index q xs + at_index q ys
at_append q xs ys = sum_by-append (λ (x : HistItem). cond (x.event.index == q) 1 0) xs ys

item_index : (n : Option ℕ) (b : Bool) (e : Event) → (item_of n b e).event ≡ passed b e
item_index n true e = refl
item_index n false e = refl

item_event : (n m : Option ℕ) (b : Bool) (e : Event) → (item_of n b e).event ≡ (item_of m b e).event
item_event n m true e = refl
item_event n m false e = refl

-- a sweep owes no more on an index than the share has
pub owed_fewer : (q f n : ℕ) (m : Option ℕ) (stage : Stage) (es : List Event) → at_index q (owed_items stage f n es) ≤ at_index q (share_items f m es)
owed_fewer q f n m stage [] = omega arith
owed_fewer q f n m stage (e ∷ es) =
    let x = at_append q (owed_item stage f (number_for stage n) (has_above f es) e) (owed_items stage f n es) in
    let y = at_append q (if nat_le f e.index then item_of m (has_above f es) e ∷ [] else []) (share_items f m es) in
    let z = one (nat_le f e.index) (is_swept stage e.index) in
    let r = owed_fewer q f n m stage es in
    omega (arith, x, y, z, r)
  where
    one : (a b : Bool) → at_index q (if a && b then item_of (number_for stage n) (has_above f es) e ∷ [] else []) ≤ at_index q (if a then item_of m (has_above f es) e ∷ [] else [])
    one true true =
        let x = at_cons q (item_of (number_for stage n) (has_above f es) e) [] in
        let y = at_cons q (item_of m (has_above f es) e) [] in
        let s = ap {B = ℕ} (λ (d : Event). cond (d.index == q) 1 0) (item_event (number_for stage n) m (has_above f es) e) in
        omega (arith, x, y, s)
    one true false = omega arith
    one false b = omega arith

-- nor more in all
pub owed_shorter : (f n : ℕ) (m : Option ℕ) (stage : Stage) (es : List Event) → length (owed_items stage f n es) ≤ length (share_items f m es)
owed_shorter f n m stage [] = omega arith
owed_shorter f n m stage (e ∷ es) =
    let x = length-append (owed_item stage f (number_for stage n) (has_above f es) e) (owed_items stage f n es) in
    let y = length-append (if nat_le f e.index then item_of m (has_above f es) e ∷ [] else []) (share_items f m es) in
    let z = one (nat_le f e.index) (is_swept stage e.index) in
    let r = owed_shorter f n m stage es in
    omega (arith, x, y, z, r)
  where
    one : (a b : Bool) → length (if a && b then item_of (number_for stage n) (has_above f es) e ∷ [] else []) ≤ length (if a then item_of m (has_above f es) e ∷ [] else [])
    one true true = omega arith
    one true false = omega arith
    one false b = omega arith

-- what changes a map at one index depends on that index alone
pub with_items_at : (f : ℕ) (m n : Map) (is : List HistItem) (q : ℕ) → m q ≡ n q → with_items f m is q ≡ with_items f n is q
with_items_at f m n [] q h = h
with_items_at f m n (i ∷ is) q h =
    with_items_at f (with_item f i m) (with_item f i n) is q
    (ap (λ (o : Option Cells). if i.event.index == q && nat_le f q then (if is_remove i.event then None else Some i.event.cells) else o) h)

pub over_at : (f : ℕ) (es : List Event) (m n : Map) (q : ℕ) → m q ≡ n q → over f es m q ≡ over f es n q
over_at f [] m n q h = h
over_at f (e ∷ es) m n q h = ap (λ (o : Option Cells). if e.index == q && nat_le f q then (if is_remove e then None else Some e.cells) else o) (over_at f es m n q h)

-- at a swept index what is owed changes a map as the whole share does
pub owed_shows : (f n place : ℕ) (k : Option ℕ) (es : List Event) (m m' : Map) (q : ℕ) → place < q → m q ≡ m' q → with_items f m (owed_items (Sweeping place) f n es) q ≡ with_items f m' (share_items f k es) q
owed_shows f n place k [] m m' q lt h = h
owed_shows f n place k (e ∷ es) m m' q lt h =
    ap (λ (x : Map). x q) (run_append f m (owed_item (Sweeping place) f None (has_above f es) e) (owed_items (Sweeping place) f n es))
    ∙ owed_shows f n place k es (with_items f m (owed_item (Sweeping place) f None (has_above f es) e)) (with_items f m' (if nat_le f e.index then item_of k (has_above f es) e ∷ [] else [])) q lt
    (one (nat_le f e.index) (cases_Bool (nat_lt place e.index)))
    ∙ sym (ap (λ (x : Map). x q) (run_append f m' (if nat_le f e.index then item_of k (has_above f es) e ∷ [] else []) (share_items f k es)))
  where
    same : with_items f m (item_of None (has_above f es) e ∷ []) q ≡ with_items f m' (item_of k (has_above f es) e ∷ []) q
    same = ap (λ (d : Event). over f (d ∷ []) m q) (item_event None k (has_above f es) e) ∙ over_at f ((item_of k (has_above f es) e).event ∷ []) m m' q h

    passed_by : nat_lt place e.index ≡ false → m q ≡ with_items f m' (item_of k (has_above f es) e ∷ []) q
    passed_by s =
        let le : e.index ≤ place = ltb-false place e.index s in
        let ne : (e.index == q) ≡ false = ne_eqb e.index q (λ x. omega (arith, x, le, lt)) in
        h ∙ sym (ap (λ (d : Event). over f (d ∷ []) m' q) (item_index k (has_above f es) e) ∙ ap (λ (b : Bool). if b && nat_le f q then (if is_remove (passed (has_above f es) e) then None else Some e.cells) else m' q) ne)

    one : (a : Bool) → (nat_lt place e.index ≡ true) ⊎ (nat_lt place e.index ≡ false)
        → with_items f m (if a && nat_lt place e.index then item_of None (has_above f es) e ∷ [] else []) q ≡ with_items f m' (if a then item_of k (has_above f es) e ∷ [] else []) q
    one true (inl s) = ap (λ (b : Bool). with_items f m (if b then item_of None (has_above f es) e ∷ [] else []) q) s ∙ same
    one true (inr s) = ap (λ (b : Bool). with_items f m (if b then item_of None (has_above f es) e ∷ [] else []) q) s ∙ passed_by s
    one false s = h

-- an event is of the share that it stands in
event_same : (b : Bool) (e : Event) → is_event (passed b e) (passed b e) ≡ true
event_same b e =
    and_from (e.index == e.index && same_cells e.cells (Some e.cells)) (bare_flags (passed b e) == (passed b e).flags)
    (and_from (e.index == e.index) (same_cells e.cells (Some e.cells)) (eq-eqb e.index e.index refl) (same_cells_refl e.cells))
    (eq-eqb (bare_flags (passed b e)) (passed b e).flags (passed_bare b e))

pub owed_more : (place : ℕ) (xs ys is : List HistItem) → AllOwed place xs is → AllOwed place (xs ++ ys) is
owed_more place xs ys [] w = tt
owed_more place xs ys (i ∷ is) w =
    (record { swept = w.0.swept; no_number = w.0.no_number; no_begin = w.0.no_begin; no_end = w.0.no_end; shared = any_front xs w.0.shared }, owed_more place xs ys is w.1)
  where
    any_front : (xs : List HistItem) → list_any (λ d. is_event i.event d.event) xs ≡ true → list_any (λ d. is_event i.event d.event) (xs ++ ys) ≡ true
    any_front [] h = cc h
    any_front (x ∷ xs) h = go (is_event i.event x.event) h (any_front xs)
      where
        go : (b : Bool) → (b || list_any (λ d. is_event i.event d.event) xs) ≡ true → (list_any (λ d. is_event i.event d.event) xs ≡ true → list_any (λ d. is_event i.event d.event) (xs ++ ys) ≡ true)
            → (b || list_any (λ d. is_event i.event d.event) (xs ++ ys)) ≡ true
        go true h ih = refl
        go false h ih = ih h

pub owed_behind : (place : ℕ) (xs ys is : List HistItem) → AllOwed place ys is → AllOwed place (xs ++ ys) is
owed_behind place xs ys [] w = tt
owed_behind place xs ys (i ∷ is) w =
    (record { swept = w.0.swept; no_number = w.0.no_number; no_begin = w.0.no_begin; no_end = w.0.no_end; shared = any_back xs }, owed_behind place xs ys is w.1)
  where
    any_back : (xs : List HistItem) → list_any (λ d. is_event i.event d.event) (xs ++ ys) ≡ true
    any_back [] = w.0.shared
    any_back (x ∷ xs) = ap (λ (b : Bool). is_event i.event x.event || b) (any_back xs) ∙ or-true (is_event i.event x.event)

pub owed_append : (place : ℕ) (shares xs ys : List HistItem) → AllOwed place shares xs → AllOwed place shares ys → AllOwed place shares (xs ++ ys)
owed_append place shares [] ys v w = w
owed_append place shares (x ∷ xs) ys v w = (v.0, owed_append place shares xs ys v.1 w)

-- what a sweep owes of a share
pub owed_each : (f n place : ℕ) (k : Option ℕ) (es : List Event) → AllOwed place (share_items f k es) (owed_items (Sweeping place) f n es)
owed_each f n place k [] = tt
owed_each f n place k (e ∷ es) =
    owed_append place (share_items f k (e ∷ es)) (owed_item (Sweeping place) f None (has_above f es) e) (owed_items (Sweeping place) f n es)
    (one (cases_Bool (nat_le f e.index)) (cases_Bool (nat_lt place e.index)))
    (owed_behind place (if nat_le f e.index then item_of k (has_above f es) e ∷ [] else []) (share_items f k es) (owed_items (Sweeping place) f n es) (owed_each f n place k es))
  where
    I : HistItem
    I = item_of None (has_above f es) e

    no_number : (b : Bool) → (item_of None b e).at ≡ None
    no_number true = refl
    no_number false = refl

    one : (nat_le f e.index ≡ true) ⊎ (nat_le f e.index ≡ false) → (nat_lt place e.index ≡ true) ⊎ (nat_lt place e.index ≡ false)
        → AllOwed place ((if nat_le f e.index then item_of k (has_above f es) e ∷ [] else []) ++ share_items f k es) (if nat_le f e.index && nat_lt place e.index then item_of None (has_above f es) e ∷ [] else [])
    one (inl a) (inl s) =
        let ev = item_index None (has_above f es) e in
        subst (λ (b : Bool). AllOwed place ((if b then item_of k (has_above f es) e ∷ [] else []) ++ share_items f k es) (if b && nat_lt place e.index then item_of None (has_above f es) e ∷ [] else [])) (sym a)
        (subst (λ (b : Bool). AllOwed place (item_of k (has_above f es) e ∷ share_items f k es) (if b then item_of None (has_above f es) e ∷ [] else [])) (sym s) (
          record {
            swept = subst (λ (d : Event). place < d.index) (sym ev) (ltb-true place e.index s);
            no_number = no_number (has_above f es);
            no_begin = subst (λ (d : Event). is_begin d ≡ false) (sym ev) (passed_begin (has_above f es) e);
            no_end = subst (λ (d : Event). ends d ≡ false) (sym ev) (passed_ends (has_above f es) e);
            shared = ap (λ (b : Bool). b || list_any (λ d. is_event (item_of None (has_above f es) e).event d.event) (share_items f k es))
                (ap (λ (d : Event). is_event d (item_of k (has_above f es) e).event) ev ∙ ap (λ (d : Event). is_event (passed (has_above f es) e) d) (item_index k (has_above f es) e) ∙ event_same (has_above f es) e);
          },
          tt,
        ))
    one (inl a) (inr s) =
        subst (λ (b : Bool). AllOwed place ((if nat_le f e.index then item_of k (has_above f es) e ∷ [] else []) ++ share_items f k es) (if nat_le f e.index && b then item_of None (has_above f es) e ∷ [] else [])) (sym s)
        (none (nat_le f e.index))
      where
        none : (a : Bool) → AllOwed place ((if nat_le f e.index then item_of k (has_above f es) e ∷ [] else []) ++ share_items f k es) (if a && false then item_of None (has_above f es) e ∷ [] else [])
        none true = tt
        none false = tt
    one (inr a) s =
        subst (λ (b : Bool). AllOwed place ((if nat_le f e.index then item_of k (has_above f es) e ∷ [] else []) ++ share_items f k es) (if b && nat_lt place e.index then item_of None (has_above f es) e ∷ [] else [])) (sym a) tt
