-- Updates after a whole state, as a collector passes them on.
use Rattle.std.proofs.Common.{◌≡◌, ℕ, ◌≤◌, Bool, true, false, ◌||◌, List, [], ◌∷◌, ◌++◌, refl, sym, ◌∙◌, ap, arith, Option, Some, None, subst}
use Rattle.std.specs.Prelude.{if◌then◌else◌, option_map, nat_le, filter}
use Rattle.std.proofs.Math.Path.{fun_ext}
use Rattle.std.proofs.lemmas.Option.{same_Some}
use Rattle.std.proofs.lemmas.Bool.Decides.{nat_tests}
use Rattle.qd_scheme.specs.declared.key.Event.{Event}
use Rattle.qd_flags.specs.Bits.{is_begin, is_snip}
use Rattle.qd_flags.specs.Shown.{Map, Shown, cut, left_by, has_begin, since_begin, first_end, is_open, shown, shown_from, last_shown, after_place, events_of}
use Rattle.qd_flags.specs.Following.{over}
use Rattle.qd_flags.proofs.Places.{or_parts, end_of_shown, begin_of_end, same_floor}
use Rattle.qd_flags.proofs.Feeding.{since_more, if_false, over_left, over_same, map_of_shown, map_since}

-- a commit that is no snapshot changes the map by its events alone
pub map_by_events : (e : Event) (es : List Event) (s r : Shown) → shown (e ∷ es) ≡ Some s → last_shown es ≡ Some r → has_begin (events_of (e ∷ es)) ≡ false → (q : ℕ)
    → s.map q ≡ over r.floor (events_of (e ∷ es)) r.map q
map_by_events e es s r h l n q =
    let p = or_parts (is_begin e) (has_begin (after_place es)) n in
    let x = end_of_shown (e ∷ es) s h in
    let hb : has_begin es ≡ true = subst (λ (b : Bool). (b || has_begin es) ≡ true) p.0 (begin_of_end (e ∷ es) x.0 x.1) in
    sym (map_of_shown (e ∷ es) s h q)
    ∙ ap (λ (f : ℕ). cut f (left_by (since_begin (e ∷ es))) q) (same_floor e es s r h l n)
    ∙ ap (λ (xs : List Event). cut r.floor (left_by xs) q) (since_more e es p.0 hb)
    ∙ over_left r.floor (e ∷ []) (since_begin es) q
    ∙ over_same r.floor (e ∷ []) (cut r.floor (left_by (since_begin es))) (over r.floor (after_place es) r.map) q (map_since es r l p.1)

-- cut at a floor g that is no less, the events at or above g make the same change
pub cut_over : (f g : ℕ) (es : List Event) (m : Map) → f ≤ g → (q : ℕ) → over g (filter (λ e. nat_le g e.index) es) (cut g m) q ≡ cut g (over f es m) q
cut_over f g [] m le q = refl
cut_over f g (e ∷ es) m le q = grind (arith, nat_tests, cut_over f g es m le q)

or_right : (a b : Bool) → b ≡ true → (a || b) ≡ true
or_right true b h = refl
or_right false b h = h

since_updates : (us es : List Event) → has_begin us ≡ false → has_begin es ≡ true → since_begin (us ++ es) ≡ us ++ since_begin es
since_updates [] es n b = refl
since_updates (u ∷ us) es n b =
    let p = or_parts (is_begin u) (has_begin us) n in
    since_more u (us ++ es) p.0 (begins us) ∙ ap (λ (xs : List Event). u ∷ xs) (since_updates us es p.1 b)
  where
    begins : (us : List Event) → has_begin (us ++ es) ≡ true
    begins [] = b
    begins (v ∷ us) = or_right (is_begin v) (has_begin (us ++ es)) (begins us)

first_stays : (us es : List Event) (x : Event) → first_end es ≡ Some x → first_end (us ++ es) ≡ Some x
first_stays [] es x h = h
first_stays (u ∷ us) es x h = rw (first_stays us es x h) refl

-- updates after a whole state change its map by themselves alone, and leave its floor
pub whole_after : (us es : List Event) (s : Shown) → shown es ≡ Some s → has_begin us ≡ false → is_open (us ++ es) ≡ false
    → shown (us ++ es) ≡ Some (record { map = over s.floor us s.map; floor = s.floor; snipped = s.snipped })
whole_after us es s h n o = go (is_open es) (first_end (since_begin es)) h refl
  where
    b : has_begin es ≡ true
    b = let x = end_of_shown es s h in begin_of_end es x.0 x.1

    go : (c : Bool) (p : Option Event) → (if c then None else option_map {U = Shown} (λ e. record { map = cut e.index (left_by (since_begin es)); floor = e.index; snipped = (is_snip e) }) p) ≡ Some s → first_end (since_begin es) ≡ p
        → shown (us ++ es) ≡ Some (record { map = over s.floor us s.map; floor = s.floor; snipped = s.snipped })
    go true p h w = cc h
    go false None h w = cc h
    go false (Some x) h w =
        let r : Shown = record { map = cut x.index (left_by (since_begin es)); floor = x.index; snipped = (is_snip x) } in
        let rs : r ≡ s = same_Some r s h in
        let core : shown (us ++ es) ≡ Some (record { map = over x.index us (cut x.index (left_by (since_begin es))); floor = x.index; snipped = (is_snip x) }) =
        if_false (is_open (us ++ es)) None (shown_from (since_begin (us ++ es))) o
        ∙ ap shown_from (since_updates us es n b)
        ∙ ap (λ (p : Option Event). option_map {U = Shown} (λ e. record { map = cut e.index (left_by (us ++ since_begin es)); floor = e.index; snipped = (is_snip e) }) p) (first_stays us (since_begin es) x w)
        ∙ ap (λ (m : Map). Some (made m)) (fun_ext (λ (q : ℕ). over_left x.index us (since_begin es) q)) in
        subst (λ (s : Shown). shown (us ++ es) ≡ Some (record { map = over s.floor us s.map; floor = s.floor; snipped = s.snipped })) rs core
      where
        made : Map → Shown
        made m = record { map = m; floor = x.index; snipped = (is_snip x) }
