-- What is kept of events has no greater index and no more cells than they.
use Rattle.std.proofs.Common.{◌≡◌, ℕ, ◌<◌, Bool, true, false, List, [], ◌∷◌, length, refl, sym, ◌∙◌, ap, arith, Option, Some, None, subst}
use Rattle.std.specs.Prelude.{if◌then◌else◌, ◌==◌, ◌^◌, nat_le, is_some, IfSome, option_map}
use Rattle.std.proofs.lemmas.Bool.{eqb-true, eq-eqb}
use Rattle.qd_scheme.specs.declared.key.Event.{Event}
use Rattle.qd_scheme.specs.declared.cells.Cells.{Cells}
use Rattle.qd_entries.specs.declared.Entry.{Entry}
use Rattle.qd_entries.specs.Entries.{AllBelow, Falls, cells_at}
use Rattle.qd_flags.specs.declared.commits.Floor.{Floor}
use Rattle.qd_flags.specs.Bits.{is_begin, is_remove, is_snip}
use Rattle.qd_flags.specs.Shown.{Shown, cut, left_by, has_begin, since_begin, first_end, ends, is_open, shown, last_shown, or_else}
use Rattle.qd_flags.specs.Following.{map_at, floor_of}
use Rattle.qd_flags.specs.Following as following
use Rattle.qd_hist_key.specs.Keeping.{AllFit, Fits, FewCells, begin_width}

-- the last BEGIN event is one of them
pub few_cells : (es : List Event) → AllFit es → FewCells (begin_width es)
few_cells [] h = tt
few_cells (e ∷ es) h = go (is_begin e) (few_cells es h.1)
  where
    go : (b : Bool) → FewCells (begin_width es) → FewCells (if b then Some (length e.cells) else begin_width es)
    go true ih = h.0.1
    go false ih = ih

fit_since : (es : List Event) → AllFit es → AllFit (since_begin es)
fit_since [] h = tt
fit_since (e ∷ es) h = go (is_begin e) (has_begin es) (fit_since es h.1)
  where
    go : (b c : Bool) → AllFit (since_begin es) → AllFit (if b then e ∷ [] else if c then e ∷ since_begin es else [])
    go true c ih = (h.0, tt)
    go false true ih = (h.0, ih)
    go false false ih = tt

-- and so is the one that ends them
fit_end : (es : List Event) (x : Event) → AllFit es → first_end es ≡ Some x → Fits x
fit_end [] x h p = cc p
fit_end (e ∷ es) x h p = go (first_end es) (ends e) refl p (fit_end es x h.1)
  where
    go : (o : Option Event) (b : Bool) → first_end es ≡ o → (if is_some o then o else if b then Some e else None) ≡ Some x → (first_end es ≡ Some x → Fits x) → Fits x
    go (Some y) b w p ih = ih (w ∙ p)
    go None true w p ih = let s : e ≡ x = cc p in subst Fits s h.0
    go None false w p ih = cc p

-- events leave cells only at their indexes
left_below : (es : List Event) (q : ℕ) (c : Cells) → AllFit es → left_by es q ≡ Some c → q < 2 ^ 64
left_below [] q c h p = cc p
left_below (e ∷ es) q c h p = go (e.index == q) (is_remove e) refl p (left_below es q c h.1)
  where
    go : (a b : Bool) → (e.index == q) ≡ a → (if a then (if b then None else Some e.cells) else left_by es q) ≡ Some c → (left_by es q ≡ Some c → q < 2 ^ 64) → q < 2 ^ 64
    go true b w p ih = let s : e.index ≡ q = eqb-true e.index q w in let lt : e.index < 2 ^ 64 = h.0.0 in omega (arith, s, lt)
    go false b w p ih = ih p

cut_below : (f : ℕ) (es : List Event) (q : ℕ) (c : Cells) → AllFit es → cut f (left_by es) q ≡ Some c → q < 2 ^ 64
cut_below f es q c h p = go (nat_le f q) p
  where
    go : (a : Bool) → (if a then left_by es q else None) ≡ Some c → q < 2 ^ 64
    go true p = left_below es q c h p
    go false p = cc p

-- what is shown has its floor and its map at indexes of events
pub record IsLow (s : Shown) : Type 0 where
  pub floor : s.floor < 2 ^ 64
  pub map : (q : ℕ) (c : Cells) → s.map q ≡ Some c → q < 2 ^ 64

shown_low : (es : List Event) (s : Shown) → AllFit es → shown es ≡ Some s → IsLow s
shown_low es s h p = go (is_open es) (first_end (since_begin es)) refl p
  where
    from : (x : Event) → first_end (since_begin es) ≡ Some x → IsLow (record { map = cut x.index (left_by (since_begin es)); floor = x.index; snipped = is_snip x })
    from x w = record {
      floor = (fit_end (since_begin es) x (fit_since es h) w).0;
      map = λ q c. cut_below x.index (since_begin es) q c (fit_since es h);
    }

    go : (b : Bool) (o : Option Event) → first_end (since_begin es) ≡ o
        → (if b then None else option_map {U = Shown} (λ x. record { map = cut x.index (left_by (since_begin es)); floor = x.index; snipped = is_snip x }) o) ≡ Some s → IsLow s
    go true o w p = cc p
    go false None w p = cc p
    go false (Some x) w p =
        let r : Shown = record { map = cut x.index (left_by (since_begin es)); floor = x.index; snipped = is_snip x } in
        let same : r ≡ s = cc p in
        subst IsLow same (from x w)

pub last_low : (es : List Event) (s : Shown) → AllFit es → last_shown es ≡ Some s → IsLow s
last_low [] s h p = cc p
last_low (e ∷ es) s h p = go (shown (e ∷ es)) refl p (last_low es s h.1)
  where
    go : (o : Option Shown) → shown (e ∷ es) ≡ o → or_else o (last_shown es) ≡ Some s → (last_shown es ≡ Some s → IsLow s) → IsLow s
    go (Some r) w p ih = shown_low (e ∷ es) s h (w ∙ p)
    go None w p ih = ih p

-- the floor is that of an event
pub floor_low : (s : following.Following) (past : List Event) → following.StandsFor s past → AllFit past → IfSome s.floor (λ f. f.index < 2 ^ 64)
floor_low s past h fit = subst (λ (o : Option Floor). IfSome o (λ f. f.index < 2 ^ 64)) (sym h.floor_is) (go (last_shown past) refl)
  where
    go : (o : Option Shown) → last_shown past ≡ o → IfSome (option_map floor_of o) (λ f. f.index < 2 ^ 64)
    go None w = tt
    go (Some r) w = (last_low past r fit w).floor

-- entries in falling order are all below an index where the first one is
falls_below : (xs : List Entry) (x : Entry) (i : ℕ) → AllBelow x.index xs → x.index < i → AllBelow i xs
falls_below [] x i h lt = tt
falls_below (y ∷ ys) x i h lt = (let a : y.index < x.index = h.0 in omega (arith, a, lt), falls_below ys x i h.1 lt)

first_below : (xs : List Entry) (i : ℕ) → Falls xs → ((q : ℕ) (c : Cells) → cells_at xs q ≡ Some c → q < i) → AllBelow i xs
first_below [] i f h = tt
first_below (x ∷ xs) i f h =
    let lt : x.index < i = h x.index x.cells (ap (λ (b : Bool). if b then Some x.cells else cells_at xs x.index) (eq-eqb x.index x.index refl)) in
    (lt, falls_below xs x i f.0 lt)

-- the entries have indexes of events
pub entries_low : (s : following.Following) (past : List Event) → following.StandsFor s past → AllFit past → AllBelow (2 ^ 64) s.entries
entries_low s past h fit = first_below s.entries (2 ^ 64) h.falls (λ q c p. go (last_shown past) refl q c (sym (h.map_is q) ∙ p))
  where
    go : (o : Option Shown) → last_shown past ≡ o → (q : ℕ) (c : Cells) → map_at o q ≡ Some c → q < 2 ^ 64
    go None w q c p = cc p
    go (Some r) w q c p = (last_low past r fit w).map q c p
