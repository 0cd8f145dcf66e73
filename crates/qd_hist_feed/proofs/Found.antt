-- What the entries of a key's state tell of its last commit.
use Rattle.std.proofs.Common.{◌≡◌, ℕ, ◌<◌, ◌≤◌, Bool, true, false, ◌||◌, List, [], ◌∷◌, length, refl, sym, ◌∙◌, ap, arith, Option, Some, None, inl, inr}
use Rattle.std.specs.Prelude.{if◌then◌else◌, nat_le, is_some, ◌⊎◌}
use Rattle.std.proofs.lemmas.Bool.{cases_Bool, leb-true, leb-false, eq-eqb, ne_eqb}
use Rattle.std.proofs.Math.Bool.{or-true}
use Rattle.qd_scheme.specs.declared.key.Key.{Key}
use Rattle.qd_scheme.specs.declared.key.Event.{Event}
use Rattle.qd_entries.specs.declared.Entry.{Entry}
use Rattle.qd_entries.specs.Entries.{AllBelow, Falls, cells_at, entry_at_or_below}
use Rattle.qd_flags.specs.Bits.{is_begin}
use Rattle.qd_flags.specs.Shown.{Shown, has_begin, after_place}
use Rattle.qd_flags.specs.Following.{map_at}
use Rattle.qd_flags.proofs.Feeding.{begin_known}
use Rattle.qd_hist_key.specs.Kept.{Kept}
use Rattle.qd_hist_key.specs.Keeping as keeping
use Rattle.qd_hist_key.specs.Keeping.{begin_width}
use Rattle.qd_hist_rules.specs.Moments.{HistMoment}
use Rattle.qd_hist_rules.specs.Source.{source, Commit, last}
use Rattle.qd_hist_rules.specs.Lawful.{width_of}
use Rattle.qd_hist_rules.proofs.Numbers.{last_place}

-- the cells at an index that is at or above all entries' bound
pub none_from : (xs : List Entry) (i j : ℕ) → AllBelow i xs → i ≤ j → cells_at xs j ≡ None
none_from [] i j h le = refl
none_from (x ∷ xs) i j h le = let lt : x.index < i = h.0 in rw (ne_eqb x.index j (λ e. omega (arith, e, lt, le))) (none_from xs i j h.1 le)

-- what a search at or below a place finds
pub record Finds (xs : List Entry) (place : ℕ) (x : Entry) : Type 0 where
  pub below : x.index ≤ place
  pub there : cells_at xs x.index ≡ Some x.cells
  pub none_between : (q : ℕ) → x.index < q → q ≤ place → cells_at xs q ≡ None

below_of : (i : ℕ) (xs : List Entry) (x : Entry) (place : ℕ) → AllBelow i xs → entry_at_or_below place xs ≡ Some x → x.index < i
below_of i [] x place h e = cc e
below_of i (y ∷ ys) x place h e = go (nat_le y.index place) e (below_of i ys x place h.1)
  where
    go : (b : Bool) → (if b then Some y else entry_at_or_below place ys) ≡ Some x → (entry_at_or_below place ys ≡ Some x → x.index < i) → x.index < i
    go true e ih = let s : y ≡ x = cc e in let lt : y.index < i = h.0 in let t : y.index ≡ x.index = ap (λ (z : Entry). z.index) s in omega (arith, lt, t)
    go false e ih = ih e

pub finds : (xs : List Entry) (place : ℕ) (x : Entry) → Falls xs → entry_at_or_below place xs ≡ Some x → Finds xs place x
finds [] place x f h = cc h
finds (y ∷ ys) place x f h = go (cases_Bool (nat_le y.index place)) (finds ys place x f.1)
  where
    pick : (b : Bool) → nat_le y.index place ≡ b → (if b then Some y else entry_at_or_below place ys) ≡ Some x
    pick b e = ap (λ (c : Bool). if c then Some y else entry_at_or_below place ys) (sym e) ∙ h

    go : (nat_le y.index place ≡ true) ⊎ (nat_le y.index place ≡ false) → (entry_at_or_below place ys ≡ Some x → Finds ys place x) → Finds (y ∷ ys) place x
    go (inl e) ih =
        let s : y ≡ x = cc (pick true e) in
        let t : y.index ≡ x.index = ap (λ (z : Entry). z.index) s in
        let le = leb-true y.index place e in
        record {
          below = omega (arith, le, t);
          there = rw (eq-eqb y.index x.index t) (ap (λ (z : Entry). Some z.cells) s);
          none_between = λ q lt up. rw (ne_eqb y.index q (λ z. omega (arith, z, lt, t))) (none_from ys y.index q f.0 (omega (arith, lt, t)));
        }
    go (inr e) ih =
        let g = ih (pick false e) in
        let gt = leb-false y.index place e in
        let lx = below_of y.index ys x place f.0 (pick false e) in
        record {
          below = g.below;
          there = rw (ne_eqb y.index x.index (λ z. omega (arith, z, lx))) g.there;
          none_between = λ q lt up. rw (ne_eqb y.index q (λ z. omega (arith, z, gt, up))) (g.none_between q lt up);
        }

pub finds_none : (xs : List Entry) (place q : ℕ) → entry_at_or_below place xs ≡ None → q ≤ place → cells_at xs q ≡ None
finds_none [] place q h le = refl
finds_none (y ∷ ys) place q h le = go (cases_Bool (nat_le y.index place)) (finds_none ys place q)
  where
    pick : (b : Bool) → nat_le y.index place ≡ b → (if b then Some y else entry_at_or_below place ys) ≡ None
    pick b e = ap (λ (c : Bool). if c then Some y else entry_at_or_below place ys) (sym e) ∙ h

    go : (nat_le y.index place ≡ true) ⊎ (nat_le y.index place ≡ false) → (entry_at_or_below place ys ≡ None → q ≤ place → cells_at ys q ≡ None) → cells_at (y ∷ ys) q ≡ None
    go (inl e) ih = cc (pick true e)
    go (inr e) ih = let gt = leb-false y.index place e in rw (ne_eqb y.index q (λ z. omega (arith, z, gt, le))) (ih (pick false e) le)

-- the entries are the map of the last commit
pub entries_map : (base : ℕ) (k : Key) (m : HistMoment) (c : Commit) (state : Kept) → last base k m ≡ Some c → keeping.StandsFor state (source k m) → (q : ℕ) → cells_at state.now.entries q ≡ c.shown.map q
entries_map base k m c state l s q = s.now.map_is q ∙ ap (λ (o : Option Shown). map_at o q) (last_place base k m c l)

width_known : (es : List Event) → has_begin es ≡ true → begin_width es ≡ Some (width_of es)
width_known [] h = cc h
width_known (e ∷ es) h = go (is_begin e) h (width_known es)
  where
    go : (b : Bool) → (b || has_begin es) ≡ true → (has_begin es ≡ true → begin_width es ≡ Some (width_of es)) → (if b then Some (length e.cells) else begin_width es) ≡ Some (if b then length e.cells else width_of es)
    go true h ih = refl
    go false h ih = ih h

-- the width of the state is that of the source's last BEGIN
pub width_is : (base : ℕ) (k : Key) (m : HistMoment) (c : Commit) (state : Kept) → last base k m ≡ Some c → keeping.StandsFor state (source k m) → state.width ≡ Some (width_of (source k m))
width_is base k m c state l s =
    s.width_is ∙ width_known (source k m)
    (begin_known (source k m) ∙ ap (λ (o : Option Shown). has_begin (after_place (source k m)) || is_some o) (last_place base k m c l) ∙ or-true (has_begin (after_place (source k m))))
