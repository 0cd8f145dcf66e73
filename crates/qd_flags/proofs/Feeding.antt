-- What one more event does to what a listener keeps.
use Rattle.std.proofs.Common.{◌≡◌, ℕ, Bool, true, false, ◌&&◌, ◌||◌, ◌==◌, List, [], ◌∷◌, ◌++◌, refl, sym, ◌∙◌, ap, Option, Some, None, subst}
use Rattle.std.specs.Prelude.{if◌then◌else◌, is_some, option_map, nat_le}
use Rattle.std.proofs.lemmas.Option.{same_Some}
use Rattle.qd_scheme.specs.declared.key.Event.{Event}
use Rattle.qd_flags.specs.Bits.{is_begin, is_remove, is_snip}
use Rattle.qd_scheme.specs.declared.cells.Cells.{Cells}
use Rattle.qd_flags.specs.declared.commits.Floor.{Floor}
use Rattle.qd_flags.specs.Shown.{Map, Shown, ends, cut, left_by, has_begin, since_begin, first_end, is_open, shown, last_shown, after_place, events_of, held_back, without_stale, or_else}
use Rattle.qd_flags.specs.Following.{end_of, map_at, over, end_in, next_end}
use Rattle.qd_flags.proofs.Segments.{since_begin-append}
use Rattle.qd_flags.proofs.Places.{or_parts, end_of_shown, begin_of_end, same_floor}

pub begin_of_shown : (es : List Event) (s : Shown) → shown es ≡ Some s → has_begin es ≡ true
begin_of_shown es s h = let x = end_of_shown es s h in begin_of_end es x.0 x.1

pub if_true : {A : Type 0} (b : Bool) (x y : A) → b ≡ true → (if b then x else y) ≡ x
if_true b x y h = rw h refl

pub if_false : {A : Type 0} (b : Bool) (x y : A) → b ≡ false → (if b then x else y) ≡ y
if_false b x y h = rw h refl

since_first : (e : Event) (es : List Event) → (is_begin e) ≡ true → since_begin (e ∷ es) ≡ e ∷ []
since_first e es h = if_true (is_begin e) (e ∷ []) (if has_begin es then e ∷ since_begin es else []) h

pub since_more : (e : Event) (es : List Event) → (is_begin e) ≡ false → has_begin es ≡ true → since_begin (e ∷ es) ≡ e ∷ since_begin es
since_more e es h b =
    if_false (is_begin e) (e ∷ []) (if has_begin es then e ∷ since_begin es else []) h ∙ if_true (has_begin es) (e ∷ since_begin es) [] b

or_false : (a b : Bool) → a ≡ false → (a || b) ≡ true → b ≡ true
or_false true b h g = cc h
or_false false b h g = g

-- a BEGIN was fed where one is held back or there was a commit place
pub begin_known : (es : List Event) → has_begin es ≡ (has_begin (after_place es) || is_some (last_shown es))
begin_known [] = refl
begin_known (e ∷ es) = go (shown (e ∷ es)) refl (begin_known es)
  where
    go : (o : Option Shown) → shown (e ∷ es) ≡ o → has_begin es ≡ (has_begin (after_place es) || is_some (last_shown es))
        → has_begin (e ∷ es) ≡ (has_begin (if is_some o then [] else e ∷ after_place es) || is_some (or_else o (last_shown es)))
    go (Some s) h ih = begin_of_shown (e ∷ es) s h
    go None h ih =
        elim (is_begin e) as (λ b. (b || has_begin es) ≡ ((b || has_begin (after_place es)) || is_some (last_shown es))) [ true ↦ refl | false ↦ ih ]

-- the first end goes on
pub end_next : (e : Event) (es : List Event) → has_begin (e ∷ es) ≡ true → end_in (since_begin (e ∷ es)) ≡ next_end (end_in (since_begin es)) e
end_next e es h = go (is_begin e) refl
  where
    one : (b : Bool) → option_map {U = Floor} (λ (x : Event). record { index = x.index; snipped = (is_snip x) }) (if b then Some e else None) ≡ (if b then Some (record { index = e.index; snipped = (is_snip e) }) else None)
    one true = refl
    one false = refl

    more : (o : Option Event) → option_map {U = Floor} (λ (x : Event). record { index = x.index; snipped = (is_snip x) }) (if is_some o then o else if ends e then Some e else None) ≡ or_else (option_map {U = Floor} (λ (x : Event). record { index = x.index; snipped = (is_snip x) }) o) (end_of e)
    more None = one (ends e)
    more (Some x) = refl

    go : (b : Bool) → (is_begin e) ≡ b → end_in (since_begin (e ∷ es)) ≡ next_end (end_in (since_begin es)) e
    go true q = ap end_in (since_first e es q) ∙ one (ends e) ∙ sym (if_true (is_begin e) (end_of e) (or_else (end_in (since_begin es)) (end_of e)) q)
    go false q =
        ap end_in (since_more e es q (or_false (is_begin e) (has_begin es) q h)) ∙ more (first_end (since_begin es))
        ∙ sym (if_false (is_begin e) (end_of e) (or_else (end_in (since_begin es)) (end_of e)) q)

pub after_next : (e : Event) (es : List Event) → shown (e ∷ es) ≡ None → after_place (e ∷ es) ≡ e ∷ after_place es
after_next e es h = rw h refl

pub last_next : (e : Event) (es : List Event) → shown (e ∷ es) ≡ None → last_shown (e ∷ es) ≡ last_shown es
last_next e es h = rw h refl

-- the events after the last commit place with one more, without the stale ones
pub without_stale-next : (e : Event) (es : List Event) → has_begin (e ∷ es) ≡ true → without_stale (e ∷ after_place es) ≡ (if (is_begin e) then e ∷ [] else e ∷ held_back es)
without_stale-next e es b = go (is_begin e) refl
  where
    go : (c : Bool) → (is_begin e) ≡ c → (if has_begin (e ∷ after_place es) then since_begin (e ∷ after_place es) else e ∷ after_place es) ≡ (if (is_begin e) then e ∷ [] else e ∷ held_back es)
    go true q =
        if_true (has_begin (e ∷ after_place es)) (since_begin (e ∷ after_place es)) (e ∷ after_place es) (ap (λ (c : Bool). c || has_begin (after_place es)) q)
        ∙ since_first e (after_place es) q ∙ sym (if_true (is_begin e) (e ∷ []) (e ∷ held_back es) q)
    go false q = at (has_begin (after_place es)) refl ∙ sym (if_false (is_begin e) (e ∷ []) (e ∷ held_back es) q)
      where
        d : has_begin es ≡ true
        d = or_false (is_begin e) (has_begin es) q b

        at : (c : Bool) → has_begin (after_place es) ≡ c → (if has_begin (e ∷ after_place es) then since_begin (e ∷ after_place es) else e ∷ after_place es) ≡ e ∷ held_back es
        at true p =
            if_true (has_begin (e ∷ after_place es)) (since_begin (e ∷ after_place es)) (e ∷ after_place es) (ap (λ (c : Bool). c || has_begin (after_place es)) q ∙ p)
            ∙ since_more e (after_place es) q p
            ∙ ap (λ (xs : List Event). e ∷ xs) (sym (if_true (has_begin (after_place es)) (since_begin (after_place es)) (if has_begin es then after_place es else []) p))
        at false p =
            if_false (has_begin (e ∷ after_place es)) (since_begin (e ∷ after_place es)) (e ∷ after_place es) (ap (λ (c : Bool). c || has_begin (after_place es)) q ∙ p)
            ∙ ap (λ (xs : List Event). e ∷ xs)
            (sym (if_false (has_begin (after_place es)) (since_begin (after_place es)) (if has_begin es then after_place es else []) p ∙ if_true (has_begin es) (after_place es) [] d))

-- what is held back after an event that makes no commit place
pub held_next : (e : Event) (es : List Event) → shown (e ∷ es) ≡ None → has_begin (e ∷ es) ≡ true → held_back (e ∷ es) ≡ (if (is_begin e) then e ∷ [] else e ∷ held_back es)
held_next e es h b =
    ap (λ (xs : List Event). if has_begin xs then since_begin xs else if has_begin (e ∷ es) then xs else []) (after_next e es h)
    ∙ ap (λ (c : Bool). if has_begin (e ∷ after_place es) then since_begin (e ∷ after_place es) else if c then e ∷ after_place es else []) b
    ∙ without_stale-next e es b

-- a map of more events
pub over_left : (f : ℕ) (h t : List Event) (q : ℕ) → cut f (left_by (h ++ t)) q ≡ over f h (cut f (left_by t)) q
over_left f [] t q = refl
over_left f (e ∷ h) t q = step (e.index == q) (nat_le f q) (over_left f h t q)
  where
    step : (a b : Bool) → (if b then left_by (h ++ t) q else None) ≡ over f h (cut f (left_by t)) q
        → (if b then (if a then (if (is_remove e) then None else Some e.cells) else left_by (h ++ t) q) else None)
        ≡ (if a && b then (if (is_remove e) then None else Some e.cells) else over f h (cut f (left_by t)) q)
    step true true ih = refl
    step true false ih = ih
    step false true ih = ih
    step false false ih = ih

pub over_same : (f : ℕ) (h : List Event) (m n : Map) (q : ℕ) → ((k : ℕ) → m k ≡ n k) → over f h m q ≡ over f h n q
over_same f [] m n q s = s q
over_same f (e ∷ h) m n q s = ap (λ (o : Option Cells). if e.index == q && nat_le f q then (if (is_remove e) then None else Some e.cells) else o) (over_same f h m n q s)

-- the map of a commit place is what the events since the last BEGIN leave
pub map_of_shown : (es : List Event) (s : Shown) → shown es ≡ Some s → (q : ℕ) → cut s.floor (left_by (since_begin es)) q ≡ s.map q
map_of_shown es s h q = go (is_open es) (first_end (since_begin es)) h
  where
    go : (b : Bool) (o : Option Event) → (if b then None else option_map {U = Shown} (λ e. record { map = cut e.index (left_by (since_begin es)); floor = e.index; snipped = (is_snip e) }) o) ≡ Some s
        → cut s.floor (left_by (since_begin es)) q ≡ s.map q
    go true o h = cc h
    go false None h = cc h
    go false (Some x) h =
        let r : Shown = record { map = cut x.index (left_by (since_begin es)); floor = x.index; snipped = (is_snip x) } in
        let p : r ≡ s = same_Some r s h in subst (λ (s : Shown). cut s.floor (left_by (since_begin es)) q ≡ s.map q) p refl

known : (b : Bool) (o : Option Shown) (r : Shown) → o ≡ Some r → (b || is_some o) ≡ true
known true o r h = refl
known false o r h = ap is_some h

-- the map since the last BEGIN, where no BEGIN is held back
pub map_since : (es : List Event) (r : Shown) → last_shown es ≡ Some r → has_begin (after_place es) ≡ false → (q : ℕ) → cut r.floor (left_by (since_begin es)) q ≡ over r.floor (after_place es) r.map q
map_since [] r h f q = cc h
map_since (e ∷ es) r h f q = go (shown (e ∷ es)) refl h f (λ h f k. map_since es r h f k)
  where
    go : (o : Option Shown) → shown (e ∷ es) ≡ o → or_else o (last_shown es) ≡ Some r → has_begin (if is_some o then [] else e ∷ after_place es) ≡ false
        → (last_shown es ≡ Some r → has_begin (after_place es) ≡ false → (k : ℕ) → cut r.floor (left_by (since_begin es)) k ≡ over r.floor (after_place es) r.map k)
        → cut r.floor (left_by (since_begin (e ∷ es))) q ≡ over r.floor (if is_some o then [] else e ∷ after_place es) r.map q
    go (Some s) w h f ih = map_of_shown (e ∷ es) r (w ∙ h) q
    go None w h f ih =
        let p = or_parts (is_begin e) (has_begin (after_place es)) f in
        let b : has_begin es ≡ true = begin_known es ∙ known (has_begin (after_place es)) (last_shown es) r h in
        ap (λ (xs : List Event). cut r.floor (left_by xs) q) (since_more e es p.0 b)
        ∙ over_left r.floor (e ∷ []) (since_begin es) q
        ∙ over_same r.floor (e ∷ []) (cut r.floor (left_by (since_begin es))) (over r.floor (after_place es) r.map) q (ih h p.1)

rest_of : (es : List Event) → (rest : List Event) × (es ≡ after_place es ++ rest)
rest_of [] = ([], refl)
rest_of (e ∷ es) = go (shown (e ∷ es)) (rest_of es)
  where
    go : (o : Option Shown) → (rest : List Event) × (es ≡ after_place es ++ rest) → (rest : List Event) × (e ∷ es ≡ (if is_some o then [] else e ∷ after_place es) ++ rest)
    go (Some s) r = (e ∷ es, refl)
    go None (rest, q) = (rest, ap (λ (xs : List Event). e ∷ xs) q)

since_held : (es : List Event) → has_begin (after_place es) ≡ true → since_begin es ≡ held_back es
since_held es h =
    let (rest, q) = rest_of es in
    ap since_begin q ∙ since_begin-append (after_place es) rest h
    ∙ sym (if_true (has_begin (after_place es)) (since_begin (after_place es)) (if has_begin es then after_place es else []) h)

nil_end : (xs : List Event) → xs ++ [] ≡ xs
nil_end [] = refl
nil_end (x ∷ xs) = ap (λ (ys : List Event). x ∷ ys) (nil_end xs)

cut_none : (b : Bool) → ◌≡◌ {A = Option Cells} (if b then None else None) None
cut_none true = refl
cut_none false = refl

pub some_last : (o : Option Shown) → is_some o ≡ true → (r : Shown) × (o ≡ Some r)
some_last None h = cc h
some_last (Some r) h = (r, refl)

-- the map that a commit place shows, from what is held back and the map of the place before
pub map_next : (e : Event) (es : List Event) (s : Shown) → shown (e ∷ es) ≡ Some s → (q : ℕ)
    → s.map q ≡ over s.floor (e ∷ (if (is_begin e) then [] else held_back es)) (if (is_begin e) || has_begin (after_place es) then (λ k. None) else map_at (last_shown es)) q
map_next e es s h q = go (is_begin e) (has_begin (after_place es)) refl refl
  where
    put : (hs hs' : List Event) (m m' : Map) → hs' ≡ hs → m' ≡ m → s.map q ≡ over s.floor (e ∷ hs) m q → s.map q ≡ over s.floor (e ∷ hs') m' q
    put hs hs' m m' a b g = g ∙ sym (ap (λ (x : List Event). over s.floor (e ∷ x) m q) a) ∙ sym (ap (λ (x : Map). over s.floor (e ∷ hs') x q) b)

    fresh : (hs : List Event) → since_begin (e ∷ es) ≡ e ∷ hs → s.map q ≡ over s.floor (e ∷ hs) (λ k. None) q
    fresh hs w =
        sym (map_of_shown (e ∷ es) s h q) ∙ ap (λ (xs : List Event). cut s.floor (left_by xs) q) (w ∙ sym (nil_end (e ∷ hs)))
        ∙ over_left s.floor (e ∷ hs) [] q ∙ over_same s.floor (e ∷ hs) (cut s.floor (left_by [])) (λ k. None) q (λ k. cut_none (nat_le s.floor k))

    go : (b c : Bool) → (is_begin e) ≡ b → has_begin (after_place es) ≡ c
        → s.map q ≡ over s.floor (e ∷ (if (is_begin e) then [] else held_back es)) (if (is_begin e) || has_begin (after_place es) then (λ k. None) else map_at (last_shown es)) q
    go true c qb qc =
        put [] (if (is_begin e) then [] else held_back es) (λ k. None) (if (is_begin e) || has_begin (after_place es) then (λ k. None) else map_at (last_shown es))
        (if_true (is_begin e) [] (held_back es) qb) (if_true ((is_begin e) || has_begin (after_place es)) (λ k. None) (map_at (last_shown es)) (ap (λ (x : Bool). x || has_begin (after_place es)) qb))
        (fresh [] (since_first e es qb))
    go false true qb qc =
        let hb : has_begin es ≡ true = or_false (is_begin e) (has_begin es) qb (begin_of_shown (e ∷ es) s h) in
        put (held_back es) (if (is_begin e) then [] else held_back es) (λ k. None) (if (is_begin e) || has_begin (after_place es) then (λ k. None) else map_at (last_shown es))
        (if_false (is_begin e) [] (held_back es) qb) (if_true ((is_begin e) || has_begin (after_place es)) (λ k. None) (map_at (last_shown es)) (ap (λ (x : Bool). x || has_begin (after_place es)) qb ∙ qc))
        (fresh (held_back es) (since_more e es qb hb ∙ ap (λ (xs : List Event). e ∷ xs) (since_held es qc)))
    go false false qb qc =
        let hb : has_begin es ≡ true = or_false (is_begin e) (has_begin es) qb (begin_of_shown (e ∷ es) s h) in
        let l = some_last (last_shown es) (or_false (has_begin (after_place es)) (is_some (last_shown es)) qc (sym (begin_known es) ∙ hb)) in
        let no : has_begin (events_of (e ∷ es)) ≡ false = ap (λ (x : Bool). x || has_begin (after_place es)) qb ∙ qc in
        put (after_place es) (if (is_begin e) then [] else held_back es) l.0.map (if (is_begin e) || has_begin (after_place es) then (λ k. None) else map_at (last_shown es))
        (if_false (is_begin e) [] (held_back es) qb ∙ if_false (has_begin (after_place es)) (since_begin (after_place es)) (if has_begin es then after_place es else []) qc ∙ if_true (has_begin es) (after_place es) [] hb)
        (if_false ((is_begin e) || has_begin (after_place es)) (λ k. None) (map_at (last_shown es)) no ∙ ap map_at l.1)
        (going l.0 l.1 (since_more e es qb hb) (same_floor e es s l.0 h l.1 no) qc)
      where
        going : (r : Shown) → last_shown es ≡ Some r → since_begin (e ∷ es) ≡ e ∷ since_begin es → s.floor ≡ r.floor → has_begin (after_place es) ≡ false → s.map q ≡ over s.floor (e ∷ after_place es) r.map q
        going r l w f c =
            sym (map_of_shown (e ∷ es) s h q) ∙ ap (λ (xs : List Event). cut s.floor (left_by xs) q) w
            ∙ over_left s.floor (e ∷ []) (since_begin es) q
            ∙ over_same s.floor (e ∷ []) (cut s.floor (left_by (since_begin es))) (over s.floor (after_place es) r.map) q
            (subst (λ (g : ℕ). (k : ℕ) → cut g (left_by (since_begin es)) k ≡ over g (after_place es) r.map k) (sym f) (map_since es r l c))
