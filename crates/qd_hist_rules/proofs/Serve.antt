-- What is owed can be given: each item of the shares after a commit, given in order, shows what its number says.
use Rattle.std.proofs.Common.{◌≡◌, ℕ, ◌≤◌, Bool, true, false, List, [], ◌∷◌, ◌++◌, reverse, map, refl, sym, ◌∙◌, ap, arith, Option, Some, None, subst}
use Rattle.std.proofs.lemmas.List.{reverse-append}
use Rattle.qd_scheme.specs.declared.key.Key.{Key}
use Rattle.qd_scheme.specs.declared.key.Event.{Event}
use Rattle.qd_flags.specs.Bits.{is_begin, is_pending}
use Rattle.qd_flags.specs.Shown.{Map, cut}
use Rattle.qd_flags.specs.Following.{over}
use Rattle.qd_hist_rules.specs.declared.item.HistItem.{HistItem}
use Rattle.qd_hist_rules.specs.Moments.{HistAct, HistMoment}
use Rattle.qd_hist_rules.specs.Source.{Commit, commit}
use Rattle.qd_hist_rules.specs.Agent.{passed, passed_all, numbered, with_item, with_items}
use Rattle.qd_hist_rules.proofs.Numbers.{commit_stays}
use Rattle.qd_hist_rules.proofs.Passed.{passed_begin, passed_pending, over_passed}

abbrev pub next_low : ℕ → Option ℕ → ℕ
next_low lo None = lo
next_low lo (Some p) = p

abbrev pub low_after : ℕ → List HistItem → ℕ
low_after lo [] = lo
low_after lo (i ∷ is) = low_after (next_low lo i.at) is

-- a commit of this number, no less than lo, has this map at or above f
pub record Hits (base : ℕ) (k : Key) (f : ℕ) (m : HistMoment) (lo p : ℕ) (cur : Map) : Type 0 where
  pub commit_p : Commit
  pub is_commit : commit base k p m ≡ Some commit_p
  pub rises : lo ≤ p
  pub map_is : cur ≡ cut f commit_p.shown.map

-- the mark of an item: TX_PENDING and no number, or a number that fits
abbrev pub Marks : ℕ → Key → ℕ → HistMoment → ℕ → Map → Option ℕ → Bool → Type 0
Marks base k f m lo cur None pending = pending ≡ true
Marks base k f m lo cur (Some p) pending = (pending ≡ false) × Hits base k f m lo p cur

-- items that can be given one after another where the map shown is cur
abbrev pub Fits : ℕ → Key → ℕ → HistMoment → ℕ → Map → List HistItem → Type 0
Fits base k f m lo cur [] = Unit {0}
Fits base k f m lo cur (i ∷ is) = (is_begin i.event ≡ false) × Marks base k f m lo (with_item f i cur) i.at (is_pending i.event) × Fits base k f m (next_low lo i.at) (with_item f i cur) is

pub fits_append : (base : ℕ) (k : Key) (f : ℕ) (m : HistMoment) (lo : ℕ) (cur : Map) (xs ys : List HistItem) → Fits base k f m lo cur xs → Fits base k f m (low_after lo xs) (with_items f cur xs) ys → Fits base k f m lo cur (xs ++ ys)
fits_append base k f m lo cur [] ys g h = h
fits_append base k f m lo cur (i ∷ is) ys g h = (g.0, g.1, fits_append base k f m (next_low lo i.at) (with_item f i cur) is ys g.2 h)

pub run_append : (f : ℕ) (cur : Map) (xs ys : List HistItem) → with_items f cur (xs ++ ys) ≡ with_items f (with_items f cur xs) ys
run_append f cur [] ys = refl
run_append f cur (i ∷ is) ys = run_append f (with_item f i cur) is ys

pub low_append : (lo : ℕ) (xs ys : List HistItem) → low_after lo (xs ++ ys) ≡ low_after (low_after lo xs) ys
low_append lo [] ys = refl
low_append lo (i ∷ is) ys = low_append (next_low lo i.at) is ys

marks_stay : (base : ℕ) (k : Key) (f : ℕ) (act : HistAct) (m : HistMoment) (lo : ℕ) (cur : Map) (at : Option ℕ) (b : Bool) → Marks base k f m lo cur at b → Marks base k f (act ∷ m) lo cur at b
marks_stay base k f act m lo cur None b g = g
marks_stay base k f act m lo cur (Some p) b g = (g.0, record { commit_p = g.1.commit_p; is_commit = commit_stays base k p act m g.1.commit_p g.1.is_commit; rises = g.1.rises; map_is = g.1.map_is })

pub fits_stay : (base : ℕ) (k : Key) (f : ℕ) (act : HistAct) (m : HistMoment) (lo : ℕ) (cur : Map) (is : List HistItem) → Fits base k f m lo cur is → Fits base k f (act ∷ m) lo cur is
fits_stay base k f act m lo cur [] g = tt
fits_stay base k f act m lo cur (i ∷ is) g = (g.0, marks_stay base k f act m lo (with_item f i cur) i.at (is_pending i.event) g.1, fits_stay base k f act m (next_low lo i.at) (with_item f i cur) is g.2)

abbrev pub held_items : List Event → List HistItem
held_items es = map (λ d. record { event = d; at = None }) (map (passed true) es)

abbrev pub held_item : Event → HistItem
held_item e = record { event = passed true e; at = None }

abbrev pub last_item : ℕ → Event → HistItem
last_item n e = record { event = passed false e; at = Some n }

-- the part of a share before its last event
record Part (base : ℕ) (k : Key) (f : ℕ) (m : HistMoment) (lo : ℕ) (cur : Map) (es : List Event) : Type 0 where
  fits : Fits base k f m lo cur (reverse (held_items es))
  run_is : with_items f cur (reverse (held_items es)) ≡ over f es cur
  low_is : low_after lo (reverse (held_items es)) ≡ lo

part : (base : ℕ) (k : Key) (f : ℕ) (m : HistMoment) (lo : ℕ) (cur : Map) (es : List Event) → Part base k f m lo cur es
part base k f m lo cur [] = record { fits = tt; run_is = refl; low_is = refl }
part base k f m lo cur (e ∷ es) =
    let g = part base k f m lo cur es in
    let i : HistItem = held_item e in
    let r : reverse (held_items (e ∷ es)) ≡ reverse (held_items es) ++ i ∷ [] = reverse-append (i ∷ []) (held_items es) in
    record {
      fits = subst (λ (xs : List HistItem). Fits base k f m lo cur xs) (sym r) (fits_append base k f m lo cur (reverse (held_items es)) (i ∷ []) g.fits (passed_begin true e, passed_pending true e, tt));
      run_is = ap (λ (xs : List HistItem). with_items f cur xs) r ∙ run_append f cur (reverse (held_items es)) (i ∷ []) ∙ over_passed f true e (with_items f cur (reverse (held_items es))) ∙ ap (λ (x : Map). over f (e ∷ []) x) g.run_is;
      low_is = ap (λ (xs : List HistItem). low_after lo xs) r ∙ low_append lo (reverse (held_items es)) (i ∷ []) ∙ g.low_is;
    }

-- a whole share changes a map as its events do
pub with_share : (f n : ℕ) (cur : Map) (es : List Event) → with_items f cur (reverse (numbered n (passed_all es))) ≡ over f es cur
with_share f n cur [] = refl
with_share f n cur (e ∷ es) =
    ap (λ (xs : List HistItem). with_items f cur xs) (reverse-append (last_item n e ∷ []) (held_items es)) ∙ run_append f cur (reverse (held_items es)) (last_item n e ∷ [])
    ∙ over_passed f false e (with_items f cur (reverse (held_items es))) ∙ ap (λ (x : Map). over f (e ∷ []) x) (part_run f cur es)
  where
    part_run : (f : ℕ) (cur : Map) (es : List Event) → with_items f cur (reverse (held_items es)) ≡ over f es cur
    part_run f cur [] = refl
    part_run f cur (e ∷ es) =
        ap (λ (xs : List HistItem). with_items f cur xs) (reverse-append (held_item e ∷ []) (held_items es)) ∙ run_append f cur (reverse (held_items es)) (held_item e ∷ [])
        ∙ over_passed f true e (with_items f cur (reverse (held_items es))) ∙ ap (λ (x : Map). over f (e ∷ []) x) (part_run f cur es)

-- a whole share, the newest first
pub record Whole (base : ℕ) (k : Key) (f : ℕ) (m : HistMoment) (lo n : ℕ) (cur : Map) (es : List Event) : Type 0 where
  pub fits : Fits base k f m lo cur (reverse (numbered n (passed_all es)))
  pub run_is : with_items f cur (reverse (numbered n (passed_all es))) ≡ over f es cur
  pub low_is : (b : ℕ) → lo ≤ b → n ≤ b → low_after lo (reverse (numbered n (passed_all es))) ≤ b

pub whole_share : (base : ℕ) (k : Key) (f : ℕ) (m : HistMoment) (lo n : ℕ) (cur : Map) (es : List Event) (c : Commit) → commit base k n m ≡ Some c → lo ≤ n → over f es cur ≡ cut f c.shown.map → Whole base k f m lo n cur es
whole_share base k f m lo n cur [] c h le q = record { fits = tt; run_is = refl; low_is = λ b x y. x }
whole_share base k f m lo n cur (e ∷ es) c h le q =
    let g = part base k f m lo cur es in
    let i : HistItem = last_item n e in
    let r : reverse (numbered n (passed_all (e ∷ es))) ≡ reverse (held_items es) ++ i ∷ [] = reverse-append (i ∷ []) (held_items es) in
    let before = with_items f cur (reverse (held_items es)) in
    let last : with_item f i before ≡ cut f c.shown.map = over_passed f false e before ∙ ap (λ (x : Map). over f (e ∷ []) x) g.run_is ∙ q in
    let hits : Hits base k f m (low_after lo (reverse (held_items es))) n (with_item f i before) = record { commit_p = c; is_commit = h; rises = omega (arith, g.low_is, le); map_is = last } in
    record {
      fits = subst (λ (xs : List HistItem). Fits base k f m lo cur xs) (sym r) (fits_append base k f m lo cur (reverse (held_items es)) (i ∷ []) g.fits (passed_begin false e, (passed_pending false e, hits), tt));
      run_is = ap (λ (xs : List HistItem). with_items f cur xs) r ∙ run_append f cur (reverse (held_items es)) (i ∷ []) ∙ over_passed f false e before ∙ ap (λ (x : Map). over f (e ∷ []) x) g.run_is;
      low_is = λ b x y. let z : low_after lo (reverse (numbered n (passed_all (e ∷ es)))) ≡ n = ap (λ (xs : List HistItem). low_after lo xs) r ∙ low_append lo (reverse (held_items es)) (i ∷ []) in omega (arith, z, y);
    }
