-- How much is kept of a key is what its state has.
use Rattle.std.proofs.Common.{◌≡◌, ℕ, ◌+◌, ◌<◌, Bool, true, false, ◌&&◌, ◌||◌, not, nat_eq, List, [], ◌∷◌, ◌++◌, length, refl, sym, ◌∙◌, ap, arith, Option, Some, None}
use Rattle.std.specs.Prelude.{◌^◌, if◌then◌else◌, is_some, nat_le, map, filter, option_map}
use Rattle.std.specs.List.{list_any, AllByRecursion, IsDistinct}
use Rattle.std.proofs.lemmas.Bool.{eqb-true, eq-eqb, ne_eqb, and_from}
use Rattle.std.proofs.lemmas.Cmp.{nat_eq_equiv}
use Rattle.std.proofs.lemmas.List.{length-reverse}
use Rattle.std.proofs.lemmas.List.Folds.{list_any-append}
use Rattle.std.proofs.lemmas.Map.Made.{length-from_same_keys}
use Rattle.qd_scheme.specs.declared.key.Key.{Key}
use Rattle.qd_scheme.specs.declared.key.Event.{Event}
use Rattle.qd_scheme.specs.declared.cells.Cells.{Cells}
use Rattle.qd_entries.specs.declared.Entry.{Entry}
use Rattle.qd_entries.specs.Entries.{AllBelow, Falls, cells_at}
use Rattle.qd_flags.specs.Bits.{is_remove, is_snip}
use Rattle.qd_flags.specs.Shown.{Shown, cut, left_by, left_indexes, since_begin, first_end, is_open, shown, held_back}
use Rattle.qd_flags.specs.Following.{map_at}
use Rattle.qd_flags.proofs.Feeding.{if_true}
use Rattle.qd_sub.proofs.OrderLaws.{once, once-filter, any-filter}
use Rattle.qd_hist_key.specs.Kept.{Kept}
use Rattle.qd_hist_key.specs.Keeping as keeping
use Rattle.qd_hist_rules.specs.Moments.{HistMoment}
use Rattle.qd_hist_rules.specs.Source.{source, Commit, last, map_size}
use Rattle.qd_hist_rules.proofs.Stock.{key_stock, last_when, none_shown}
use Rattle.qd_hist_feed.specs.Feeding.{top}
use Rattle.qd_hist_feed.proofs.Found.{none_from, entries_map}

exact : (m n : ℕ) → nat_eq m n ≡ true → m ≡ n
exact m n h = eqb-true m n h

apart : (m n : ℕ) → nat_eq m n ≡ false → nat_eq n m ≡ false
apart m n h = ne_eqb n m (λ e. let t : nat_eq m n ≡ true = eq-eqb m n (sym e) in cc (t, h))

or_none : (a b : Bool) → (a || b) ≡ false → (a ≡ false) × (b ≡ false)
or_none true b h = cc h
or_none false b h = (refl, h)

none_equal : (i : ℕ) (xs : List ℕ) → list_any (nat_eq i) xs ≡ false → AllByRecursion (λ j. nat_eq i j ≡ false) xs
none_equal i [] h = tt
none_equal i (x ∷ xs) h = let p = or_none (nat_eq i x) (list_any (nat_eq i) xs) h in (p.0, none_equal i xs p.1)

distinct : (xs : List ℕ) → once nat_eq xs ≡ true → IsDistinct nat_eq xs
unfolding once IsDistinct
distinct [] h = tt
distinct (x ∷ xs) h = let p = parts (list_any (nat_eq x) xs) (once nat_eq xs) h in (none_equal x xs p.0, distinct xs p.1)
  where
    parts : (a b : Bool) → (not a && b) ≡ true → (a ≡ false) × (b ≡ true)
    parts true b h = cc h
    parts false b h = (refl, h)

-- the indexes of entries
abbrev indexes : List Entry → List ℕ
indexes xs = map (λ x. x.index) xs

not_below : (i : ℕ) (xs : List Entry) → AllBelow i xs → list_any (nat_eq i) (indexes xs) ≡ false
not_below i [] h = refl
not_below i (x ∷ xs) h = let lt : x.index < i = h.0 in ap (λ (b : Bool). b || list_any (nat_eq i) (indexes xs)) (ne_eqb i x.index (λ e. omega (arith, e, lt))) ∙ not_below i xs h.1

indexes-once : (xs : List Entry) → Falls xs → once nat_eq (indexes xs) ≡ true
unfolding once
indexes-once [] f = refl
indexes-once (x ∷ xs) f = and_from (not (list_any (nat_eq x.index) (indexes xs))) (once nat_eq (indexes xs)) (ap not (not_below x.index xs f.0)) (indexes-once xs f.1)

indexes-has : (xs : List Entry) (q : ℕ) → list_any (nat_eq q) (indexes xs) ≡ is_some (cells_at xs q)
indexes-has [] q = refl
indexes-has (x ∷ xs) q = go (nat_eq x.index q) refl (indexes-has xs q)
  where
    go : (b : Bool) → nat_eq x.index q ≡ b → list_any (nat_eq q) (indexes xs) ≡ is_some (cells_at xs q) → (nat_eq q x.index || list_any (nat_eq q) (indexes xs)) ≡ is_some (if b then Some x.cells else cells_at xs q)
    go true e ih = ap (λ (b : Bool). b || list_any (nat_eq q) (indexes xs)) (eq-eqb q x.index (sym (eqb-true x.index q e)))
    go false e ih = ap (λ (b : Bool). b || list_any (nat_eq q) (indexes xs)) (apart x.index q e) ∙ ih

-- the indexes at which events leave something, each once
abbrev but : ℕ → List ℕ → List ℕ
but j is = filter (λ i. not (nat_eq i j)) is

gone : (j : ℕ) (is : List ℕ) → list_any (nat_eq j) (but j is) ≡ false
gone j is = any-filter nat_eq exact (λ i. not (nat_eq i j)) is j ∙ ap (λ (b : Bool). not b && list_any (nat_eq j) is) (eq-eqb j j refl)

left-once : (es : List Event) → once nat_eq (left_indexes es) ≡ true
unfolding once
left-once [] = refl
left-once (e ∷ es) = go (is_remove e) (once-filter nat_eq exact (λ i. not (nat_eq i e.index)) (left_indexes es) (left-once es))
  where
    go : (b : Bool) → once nat_eq (but e.index (left_indexes es)) ≡ true → once nat_eq ((if b then [] else e.index ∷ []) ++ but e.index (left_indexes es)) ≡ true
    go true ih = ih
    go false ih = and_from (not (list_any (nat_eq e.index) (but e.index (left_indexes es)))) (once nat_eq (but e.index (left_indexes es))) (ap not (gone e.index (left_indexes es))) ih

left-has : (es : List Event) (q : ℕ) → list_any (nat_eq q) (left_indexes es) ≡ is_some (left_by es q)
left-has [] q = refl
left-has (e ∷ es) q =
    list_any-append (nat_eq q) (if is_remove e then [] else e.index ∷ []) (but e.index (left_indexes es))
    ∙ ap (λ (b : Bool). list_any (nat_eq q) (if is_remove e then [] else e.index ∷ []) || b)
    (any-filter nat_eq exact (λ i. not (nat_eq i e.index)) (left_indexes es) q ∙ ap (λ (b : Bool). not (nat_eq q e.index) && b) (left-has es q))
    ∙ go (nat_eq e.index q) (is_remove e) refl
  where
    here : (b c d : Bool) → b ≡ true → (list_any (nat_eq q) (if c then [] else e.index ∷ []) || (not b && d)) ≡ list_any (nat_eq q) (if c then [] else e.index ∷ [])
    here true true d h = refl
    here true false d h = none (nat_eq q e.index)
      where
        none : (a : Bool) → ((a || false) || false) ≡ (a || false)
        none true = refl
        none false = refl
    here false c d h = cc h

    go : (b c : Bool) → nat_eq e.index q ≡ b → (list_any (nat_eq q) (if c then [] else e.index ∷ []) || (not (nat_eq q e.index) && is_some (left_by es q))) ≡ is_some (if b then (if c then None else Some e.cells) else left_by es q)
    go true true w = here (nat_eq q e.index) true (is_some (left_by es q)) (eq-eqb q e.index (sym (eqb-true e.index q w)))
    go true false w =
        here (nat_eq q e.index) false (is_some (left_by es q)) (eq-eqb q e.index (sym (eqb-true e.index q w)))
        ∙ ap (λ (b : Bool). b || false) (eq-eqb q e.index (sym (eqb-true e.index q w)))
    go false true w = ap (λ (b : Bool). not b && is_some (left_by es q)) (apart e.index q w)
    go false false w = ap (λ (b : Bool). (b || false) || (not b && is_some (left_by es q))) (apart e.index q w)

-- and of them those at or above a floor
abbrev from_floor : ℕ → List ℕ → List ℕ
from_floor f is = filter (λ i. nat_le f i) is

cut-has : (f : ℕ) (es : List Event) (q : ℕ) → list_any (nat_eq q) (from_floor f (left_indexes es)) ≡ is_some (cut f (left_by es) q)
cut-has f es q = any-filter nat_eq exact (λ i. nat_le f i) (left_indexes es) q ∙ ap (λ (b : Bool). nat_le f q && b) (left-has es q) ∙ go (nat_le f q)
  where
    go : (b : Bool) → (b && is_some (left_by es q)) ≡ is_some (if b then left_by es q else None)
    go true = refl
    go false = refl

-- entries that are such a map are as many as its indexes
entries-count : (xs : List Entry) (f : ℕ) (es : List Event) → Falls xs → ((q : ℕ) → cells_at xs q ≡ cut f (left_by es) q) → length xs ≡ length (from_floor f (left_indexes es))
entries-count xs f es falls same =
    sym (many xs)
    ∙ length-from_same_keys nat_eq_equiv (indexes xs) (from_floor f (left_indexes es)) (distinct (indexes xs) (indexes-once xs falls))
    (distinct (from_floor f (left_indexes es)) (once-filter nat_eq exact (λ i. nat_le f i) (left_indexes es) (left-once es)))
    (λ q. indexes-has xs q ∙ ap (λ (o : Option Cells). is_some o) (same q) ∙ sym (cut-has f es q))
  where
    many : (xs : List Entry) → length (indexes xs) ≡ length xs
    many [] = refl
    many (x ∷ xs) = let r = many xs in omega (arith, r)

-- the map that is shown is what was left, cut at the floor
shown_map : (es : List Event) (s : Shown) → shown es ≡ Some s → (q : ℕ) → s.map q ≡ cut s.floor (left_by (since_begin es)) q
shown_map es s h q = go (is_open es) (first_end (since_begin es)) h
  where
    at : (x : Event) (s : Shown) → (let r : Shown = record { map = cut x.index (left_by (since_begin es)); floor = x.index; snipped = is_snip x } in r ≡ s) → s.map q ≡ cut s.floor (left_by (since_begin es)) q
    at x s e = sym (ap (λ (r : Shown). r.map q) e) ∙ ap (λ (r : Shown). cut r.floor (left_by (since_begin es)) q) e

    go : (b : Bool) (o : Option Event) → (if b then None else option_map {U = Shown} (λ x. record { map = cut x.index (left_by (since_begin es)); floor = x.index; snipped = is_snip x }) o) ≡ Some s → s.map q ≡ cut s.floor (left_by (since_begin es)) q
    go true o h = cc h
    go false None h = cc h
    go false (Some x) h = at x s (cc h)

no-entries : (xs : List Entry) → ((q : ℕ) → cells_at xs q ≡ None) → length xs ≡ 0
no-entries [] h = refl
no-entries (x ∷ xs) h =
    let there : cells_at (x ∷ xs) x.index ≡ Some x.cells = if_true (nat_eq x.index x.index) (Some x.cells) (cells_at xs x.index) (eq-eqb x.index x.index refl) in
    let none = h x.index in
    cc (there, none)

-- what a key's state has is what is kept of the key
pub size-is : (base : ℕ) (k : Key) (m : HistMoment) (state : Kept) → keeping.StandsFor state (source k m) → length state.now.entries + length state.now.held ≡ key_stock base k m
size-is base k m state s =
    let held = ap {B = ℕ} (λ (es : List Event). length es) s.now.held_is ∙ length-reverse (held_back (source k m)) in
    let entries = count (last base k m) refl in
    omega (arith, held, entries)
  where
    count : (o : Option Commit) → last base k m ≡ o → length state.now.entries ≡ map_size k (last base k m)
    count None l = no-entries state.now.entries (λ q. s.now.map_is q ∙ ap (λ (o : Option Shown). map_at o q) (none_shown base k m l)) ∙ sym (ap (λ (o : Option Commit). map_size k o) l)
    count (Some c) l =
        entries-count state.now.entries c.shown.floor (since_begin (source k c.when)) s.now.falls
        (λ q. entries_map base k m c state l s q ∙ shown_map (source k c.when) c.shown (last_when base k m c l) q)
        ∙ sym (ap (λ (o : Option Commit). map_size k o) l)

-- the map of the last commit has nothing above the greatest index
pub high-of : (base : ℕ) (k : Key) (m : HistMoment) (c : Commit) (state : Kept) → last base k m ≡ Some c → keeping.StandsFor state (source k m) → AllBelow (2 ^ 64) state.now.entries → (q : ℕ) → top < q → c.shown.map q ≡ None
high-of base k m c state l s low q lt = sym (entries_map base k m c state l s q) ∙ none_from state.now.entries (2 ^ 64) q low (omega (arith, lt))
