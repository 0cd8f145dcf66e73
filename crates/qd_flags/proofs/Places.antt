-- Commit places of a list of events: a later place without a new BEGIN has the floor of the one before.
use Rattle.std.proofs.Common.{◌≡◌, ℕ, Bool, true, false, ◌||◌, List, [], ◌∷◌, refl, ◌∙◌, ap, Option, Some, None}
use Rattle.std.specs.Prelude.{if◌then◌else◌, is_some, option_map}
use Rattle.std.proofs.lemmas.Bool.{cases_Bool}
use Rattle.std.proofs.Common.{inl, inr}
use Rattle.qd_scheme.specs.declared.key.Event.{Event}
use Rattle.qd_flags.specs.Bits.{is_begin, is_snip}
use Rattle.qd_flags.specs.Shown.{after_place, events_of, or_else, last_shown, Shown, has_begin, since_begin, is_open, first_end, shown, cut, left_by}

pub or_parts : (a b : Bool) → (a || b) ≡ false → (a ≡ false) × (b ≡ false)
or_parts true b h = cc h
or_parts false b h = (refl, h)

pub no_begin : (es : List Event) → has_begin es ≡ false → since_begin es ≡ []
no_begin [] h = refl
no_begin (e ∷ es) h =
    (elim (is_begin e) as (λ b. (b || has_begin es) ≡ false → (if b then e ∷ [] else if has_begin es then e ∷ since_begin es else []) ≡ [])
    [ true ↦ λ h. cc h | false ↦ λ h. rw h refl ]) h

abbrev floor_or : Option Shown → ℕ
floor_or None = 0
floor_or (Some s) = s.floor

abbrev snip_or : Option Shown → Bool
snip_or None = false
snip_or (Some s) = s.snipped

-- where events show whole, their first end is at the floor
pub end_of_shown : (es : List Event) (s : Shown) → shown es ≡ Some s → (x : Event) × (first_end (since_begin es) ≡ Some x) × (x.index ≡ s.floor) × ((is_snip x) ≡ s.snipped)
end_of_shown es s h = go (is_open es) (first_end (since_begin es)) h refl
  where
    go : (b : Bool) (o : Option Event) → (if b then None else option_map (λ e. record { map = cut e.index (left_by (since_begin es)); floor = e.index; snipped = (is_snip e) }) o) ≡ Some s → first_end (since_begin es) ≡ o → (x : Event) × (first_end (since_begin es) ≡ Some x) × (x.index ≡ s.floor) × ((is_snip x) ≡ s.snipped)
    go true o h e = cc h
    go false None h e = cc h
    go false (Some x) h e = (x, e, ap (λ (o : Option Shown). floor_or o) h, ap (λ (o : Option Shown). snip_or o) h)

pub begin_of_end : (es : List Event) (x : Event) → first_end (since_begin es) ≡ Some x → has_begin es ≡ true
begin_of_end es x h =
    elim (cases_Bool (has_begin es))
    [ inl t ↦ t | inr f ↦ let e : first_end (since_begin es) ≡ first_end [] = ap first_end (no_begin es f) in cc (e, h) ]

pub end_goes_on : (e : Event) (es : List Event) (x : Event) → (is_begin e) ≡ false → first_end (since_begin es) ≡ Some x → first_end (since_begin (e ∷ es)) ≡ Some x
end_goes_on e es x f h = rw (f, begin_of_end es x h, h) refl

pub end_of_place : (es : List Event) (s : Shown) → last_shown es ≡ Some s → has_begin (after_place es) ≡ false → (x : Event) × (first_end (since_begin es) ≡ Some x) × (x.index ≡ s.floor) × ((is_snip x) ≡ s.snipped)
end_of_place [] s h f = cc h
end_of_place (e ∷ es) s h f = go (shown (e ∷ es)) refl h f (end_of_place es s)
  where
    go : (o : Option Shown) → shown (e ∷ es) ≡ o → or_else o (last_shown es) ≡ Some s → has_begin (if is_some o then [] else e ∷ after_place es) ≡ false
        → (last_shown es ≡ Some s → has_begin (after_place es) ≡ false → (x : Event) × (first_end (since_begin es) ≡ Some x) × (x.index ≡ s.floor) × ((is_snip x) ≡ s.snipped))
        → (x : Event) × (first_end (since_begin (e ∷ es)) ≡ Some x) × (x.index ≡ s.floor) × ((is_snip x) ≡ s.snipped)
    go (Some r) w h f ih = let (x, p, q, t) = end_of_shown (e ∷ es) r w in (x, p, q ∙ ap floor_or h, t ∙ ap snip_or h)
    go None w h f ih =
        let parts = or_parts (is_begin e) (has_begin (after_place es)) f in
        let (x, p, q, t) = ih h parts.1 in
        (x, end_goes_on e es x parts.0 p, q, t)

-- a commit place without a BEGIN after the place before it has that one's floor
pub same_floor : (e : Event) (es : List Event) (s r : Shown) → shown (e ∷ es) ≡ Some s → last_shown es ≡ Some r → has_begin (events_of (e ∷ es)) ≡ false → s.floor ≡ r.floor
same_floor e es s r h p f =
    let parts = or_parts (is_begin e) (has_begin (after_place es)) f in
    let (x, hx, fx, tx) = end_of_place es r p parts.1 in
    let (y, hy, fy, ty) = end_of_shown (e ∷ es) s h in
    let hx2 = end_goes_on e es x parts.0 hx in
    let same : x ≡ y = cc (hx2, hy) in
    cc (same, fx, fy)

-- a commit place without a BEGIN after the place before it is snipped where that one is
pub same_snip : (e : Event) (es : List Event) (s r : Shown) → shown (e ∷ es) ≡ Some s → last_shown es ≡ Some r → has_begin (events_of (e ∷ es)) ≡ false → s.snipped ≡ r.snipped
same_snip e es s r h p f =
    let parts = or_parts (is_begin e) (has_begin (after_place es)) f in
    let (x, hx, fx, tx) = end_of_place es r p parts.1 in
    let (y, hy, fy, ty) = end_of_shown (e ∷ es) s h in
    let hx2 = end_goes_on e es x parts.0 hx in
    let same : x ≡ y = cc (hx2, hy) in
    cc (same, tx, ty)
