-- The slots and the keys of a table.
use Rattle.std.proofs.Common.{◌≡◌, ◌≢◌, ◌⊎◌, inl, inr, ℕ, zero, suc, ◌<◌, Bool, true, false, ◌||◌, if◌then◌else◌, nat_eq, Option, Some, None, is_some, List, [], ◌∷◌, length, slice_index, refl, ap, sym, ◌∙◌, arith}
use Rattle.std.proofs.lemmas.Bool.Decides.{nat_tests}
use Rattle.std.proofs.lemmas.List.{get_or_past}
use Rattle.std.specs.List.{list_any}
use Rattle.qd_scheme.specs.declared.key.Key.{Key}
use Rattle.qd_scheme.specs.Keys.{key_eq}
use Rattle.qd_scheme.proofs.KeyLaws.{key_eq-same, key_eq-true}
use Rattle.qd_pend.proofs.ListLaws.{same, equal}
use Rattle.qd_slots.specs.declared.holds.Hold.{Hold}
use Rattle.qd_slots.specs.declared.views.View.{View}
use Rattle.qd_slots.specs.declared.holds.Hold.TheVariants.{Free, Kept, Subscribed}
use Rattle.qd_slots.specs.Names.{name_at, slot_in, slot_from, is_name}
use Rattle.qd_slots.specs.Holds.{is_subscribed, is_held, hold_in, cell_at}
use Rattle.qd_slots.specs.Views.{no_view}
use Rattle.qd_slots.proofs.NameLaws.{slot_in-named, below-or-not}
use Rattle.qd_table.specs.Tables.{Table, slots_in, key_at, slot_for, below, hold_for, limit_for, view_for, is_used, is_wanted_slot}
use Rattle.qd_table.specs.Steps.{IsSlotFor}
use Rattle.qd_table.specs.Sound.{IsSound}

pub or-left : (a b : Bool) → a ≡ true → (a || b) ≡ true
or-left true b h = refl
or-left false b h = cc

pub or-right : (a b : Bool) → b ≡ true → (a || b) ≡ true
or-right true b h = refl
or-right false b h = h

pub or-cases : (a b : Bool) → (a || b) ≡ true → (a ≡ true) ⊎ (b ≡ true)
or-cases true b h = inl refl
or-cases false b h = inr h

-- two tests are one where each follows from the other
pub same-truth : (a b : Bool) → (a ≡ true → b ≡ true) → (b ≡ true → a ≡ true) → a ≡ b
same-truth true true f g = refl
same-truth true false f g = sym (f refl)
same-truth false true f g = g refl
same-truth false false f g = refl

pub true-false : true ≡ false → ⊥
true-false h = cc

pub some-none : {X : Type 0} (x : X) → (let a : Option X = Some x in a ≡ None) → ⊥
some-none x h = cc

pub some-same : {X : Type 0} (x y : X) → (let a : Option X = Some x in let b : Option X = Some y in a ≡ b) → x ≡ y
some-same x y h = cc

pub some-from : {X : Type 0} (o : Option X) → is_some o ≡ true → (x : X) × (o ≡ Some x)
some-from None h = cc
some-from (Some x) h = (x, refl)

pub none-from : {X : Type 0} (o : Option X) → is_some o ≡ false → o ≡ None
none-from None h = refl
none-from (Some x) h = cc

pub apart-numbers : (i j : ℕ) → nat_eq i j ≡ false → i ≢ j
apart-numbers i j h e = let z : true ≡ false = sym (same i) ∙ ap (nat_eq i) e ∙ h in cc

-- the numbers below one
next-below : (a n : ℕ) → a < suc n → nat_eq a n ≡ false → a < n
next-below a n h e = grind (arith, nat_tests)

pub below-any : (p : ℕ → Bool) (n a : ℕ) → a < n → p a ≡ true → list_any p (below n) ≡ true
unfolding below
below-any p zero a h t = absurd (omega arith)
below-any p (suc n) a h t =
    let go : (c : Bool) → nat_eq a n ≡ c → (p n || list_any p (below n)) ≡ true =
    elim [
      | true ↦ λ e. or-left (p n) (list_any p (below n)) (ap p (sym (equal a n e)) ∙ t)
      | false ↦ λ e. or-right (p n) (list_any p (below n)) (below-any p n a (next-below a n h e) t)
    ] in
    go (nat_eq a n) refl

pub below-found : (p : ℕ → Bool) (n : ℕ) → list_any p (below n) ≡ true → (a : ℕ) × (a < n) × (p a ≡ true)
unfolding below
below-found p zero h = absurd (true-false (sym h))
below-found p (suc n) h =
    elim (or-cases (p n) (list_any p (below n)) h) [
      | inl t ↦ (n, omega arith, t)
      | inr t ↦ (let f = below-found p n t in let l = f.1 in (f.0, omega (arith, l), f.2))
    ]

pub below-none : (p : ℕ → Bool) (n : ℕ) → ((a : ℕ) → p a ≡ false) → list_any p (below n) ≡ false
unfolding below
below-none p zero h = refl
below-none p (suc n) h = rw (h n) (below-none p n h)

pub below-same : (p q : ℕ → Bool) (n : ℕ) → ((a : ℕ) → p a ≡ q a) → list_any p (below n) ≡ list_any q (below n)
unfolding below
below-same p q zero h = refl
below-same p q (suc n) h = rw (h n, below-same p q n h) refl

-- an agent has a limit where it is subscribed
pub limit_for-some : (t : Table) (a slot : ℕ) → is_some (limit_for t a slot) ≡ is_subscribed (hold_for t a slot)
unfolding limit_for hold_for
limit_for-some t a slot = elim (is_subscribed (hold_in (cell_at t.holdings.cells slot) a)) as (λ c. is_some (if c then Some (slice_index (cell_at t.holdings.cells slot).limits a) else None) ≡ c) [ true ↦ refl | false ↦ refl ]

pub subscribed-held : (hold : Hold) → is_subscribed hold ≡ true → is_held hold ≡ true
subscribed-held Free h = cc
subscribed-held Kept h = refl
subscribed-held Subscribed h = refl

-- slots of keys
pub key_at-within : (t : Table) (slot : ℕ) (k : Key) → key_at t slot ≡ Some k → slot < slots_in t
unfolding key_at slots_in
key_at-within t slot k h = elim (below-or-not slot (length t.names)) [
  | inl l ↦ l
  | inr m ↦ absurd (some-none k (sym h ∙ get_or_past t.names slot None m))
]

pub key_at-found : (t : Table) (k : Key) (slot : ℕ) → slot_for t k ≡ Some slot → key_at t slot ≡ Some k
unfolding key_at slot_for
key_at-found t k slot h = slot_in-named t.names k slot h

slot_from-there : (n : ℕ) (names : List (Option Key)) (i : ℕ) (k : Key) → name_at names i ≡ Some k → is_some (slot_from n names k) ≡ true
unfolding slot_from
slot_from-there n [] i k h = absurd (some-none k (sym h))
slot_from-there n (o ∷ names) zero k h = let e : is_name k o ≡ true = ap (is_name k) h ∙ key_eq-same k in rw e refl
slot_from-there n (o ∷ names) (suc i) k h = elim (is_name k o) as (λ c. is_some (if c then Some n else slot_from (suc n) names k) ≡ true) [ true ↦ refl | false ↦ slot_from-there (suc n) names i k h ]

-- a key that has one slot alone is found there
pub slot_for-unique : (t : Table) (k : Key) (slot : ℕ) → key_at t slot ≡ Some k → ((i : ℕ) → key_at t i ≡ Some k → i ≡ slot) → slot_for t k ≡ Some slot
unfolding key_at slot_for
slot_for-unique t k slot h only =
    let go : (o : Option ℕ) → slot_in t.names k ≡ o → slot_in t.names k ≡ Some slot =
    elim [
      | None ↦ λ e. absurd (true-false (sym (slot_from-there 0 t.names slot k h) ∙ ap is_some e))
      | Some i ↦ λ e. e ∙ ap (λ x. let s : Option ℕ = Some x in s) (only i (slot_in-named t.names k i e))
    ] in
    go (slot_in t.names k) refl

pub slot_for-none : (t : Table) (k : Key) → ((i : ℕ) → key_at t i ≡ Some k → ⊥) → slot_for t k ≡ None
unfolding key_at slot_for
slot_for-none t k none =
    let go : (o : Option ℕ) → slot_in t.names k ≡ o → slot_in t.names k ≡ None =
    elim [
      | None ↦ λ e. e
      | Some i ↦ λ e. absurd (none i (slot_in-named t.names k i e))
    ] in
    go (slot_in t.names k) refl

-- what is used
pub used-agent : (t : Table) (a slot : ℕ) → IsSound t → is_held (hold_for t a slot) ≡ true → is_used t slot ≡ true
unfolding is_used
used-agent t a slot s h = elim (below-or-not a 128) [
  | inl l ↦ or-left _ _ (below-any (λ b. is_held (hold_for t b slot)) 128 a l h)
  | inr m ↦ absurd (true-false (sym h ∙ ap is_held (s.agents a slot m)))
]

pub used-watcher : (t : Table) (w slot : ℕ) → IsSound t → is_some (view_for t w slot).known ≡ true → is_used t slot ≡ true
unfolding is_used
used-watcher t w slot s h = elim (below-or-not w 8) [
  | inl l ↦ or-right _ _ (below-any (λ v. is_some (view_for t v slot).known) 8 w l h)
  | inr m ↦ absurd (true-false (sym h ∙ ap (λ v. is_some v.known) (s.watchers w slot m)))
]

pub used-holder : (t : Table) (slot : ℕ) → is_used t slot ≡ true → ((a : ℕ) × (is_held (hold_for t a slot) ≡ true)) ⊎ ((w : ℕ) × (is_some (view_for t w slot).known ≡ true))
unfolding is_used
used-holder t slot h = elim (or-cases (list_any (λ a. is_held (hold_for t a slot)) (below 128)) (list_any (λ w. is_some (view_for t w slot).known) (below 8)) h) [
  | inl x ↦ inl (let f = below-found (λ a. is_held (hold_for t a slot)) 128 x in (f.0, f.2))
  | inr x ↦ inr (let f = below-found (λ w. is_some (view_for t w slot).known) 8 x in (f.0, f.2))
]

pub wanted-subscriber : (t : Table) (a slot : ℕ) → IsSound t → is_subscribed (hold_for t a slot) ≡ true → is_wanted_slot t slot ≡ true
unfolding is_wanted_slot
wanted-subscriber t a slot s h = elim (below-or-not a 128) [
  | inl l ↦ below-any (λ b. is_subscribed (hold_for t b slot)) 128 a l h
  | inr m ↦ absurd (true-false (sym h ∙ ap is_subscribed (s.agents a slot m)))
]

pub wanted-someone : (t : Table) (slot : ℕ) → is_wanted_slot t slot ≡ true → (a : ℕ) × (is_subscribed (hold_for t a slot) ≡ true)
unfolding is_wanted_slot
wanted-someone t slot h = let f = below-found (λ a. is_subscribed (hold_for t a slot)) 128 h in (f.0, f.2)

-- a slot that anything is known of has a key
pub key_at-used : (t : Table) (slot : ℕ) → IsSound t → is_used t slot ≡ true → (k : Key) × (key_at t slot ≡ Some k)
key_at-used t slot s h = some-from (key_at t slot) (s.used slot ∙ h)

pub key_at-subscribed : (t : Table) (a slot : ℕ) → IsSound t → is_subscribed (hold_for t a slot) ≡ true → (k : Key) × (key_at t slot ≡ Some k)
key_at-subscribed t a slot s h = key_at-used t slot s (used-agent t a slot s (subscribed-held (hold_for t a slot) h))

-- and of a vacant slot nothing is
not-held : (hold : Hold) → is_held hold ≡ false → hold ≡ Free
not-held Free h = refl
not-held Kept h = cc
not-held Subscribed h = cc

pub unused : (t : Table) (slot : ℕ) → IsSound t → key_at t slot ≡ None → is_used t slot ≡ false
unused t slot s h = sym (s.used slot) ∙ ap is_some h

pub unused-hold : (t : Table) (a slot : ℕ) → IsSound t → is_used t slot ≡ false → hold_for t a slot ≡ Free
unused-hold t a slot s h =
    let go : (c : Bool) → is_held (hold_for t a slot) ≡ c → hold_for t a slot ≡ Free =
    elim [
      | true ↦ λ e. absurd (true-false (sym (used-agent t a slot s e) ∙ h))
      | false ↦ λ e. not-held (hold_for t a slot) e
    ] in
    go (is_held (hold_for t a slot)) refl

view-none : (v : View) → v.known ≡ None → v.outdated ≡ false → v ≡ no_view
view-none v e f = ap (λ o. let x : View = record { known = o; outdated = v.outdated } in x) e ∙ ap (λ b. let x : View = record { known = None; outdated = b } in x) f

pub unused-view : (t : Table) (w slot : ℕ) → IsSound t → is_used t slot ≡ false → view_for t w slot ≡ no_view
unused-view t w slot s h =
    let go : (c : Bool) → is_some (view_for t w slot).known ≡ c → view_for t w slot ≡ no_view =
    elim [
      | true ↦ λ e. absurd (true-false (sym (used-watcher t w slot s e) ∙ h))
      | false ↦ λ e. view-none (view_for t w slot) (none-from (view_for t w slot).known e) (fresh e (view_for t w slot).outdated refl)
    ] in
    go (is_some (view_for t w slot).known) refl
  where
    fresh : is_some (view_for t w slot).known ≡ false → (c : Bool) → (view_for t w slot).outdated ≡ c → (view_for t w slot).outdated ≡ false
    fresh e true o = absurd (true-false (sym (s.outdated w slot o) ∙ e))
    fresh e false o = o

pub unused-limit : (t : Table) (a slot : ℕ) → IsSound t → is_used t slot ≡ false → limit_for t a slot ≡ None
unused-limit t a slot s h = none-from (limit_for t a slot) (limit_for-some t a slot ∙ ap is_subscribed (unused-hold t a slot s h))

-- the value at the slot of a key, if it has one
abbrev pub by : {X : Type 0} → Option ℕ → (ℕ → X) → X → X
by o f d = elim o [ None ↦ d | Some slot ↦ f slot ]

-- a key gets its slot, keeps it, or loses it; all others keep theirs
pub record Moved (old new : Table) (k : Key) (slot : ℕ) (gone : Bool) : Type 0 where
  pub own_old : IsSlotFor old k slot
  pub own_new : slot_for new k ≡ (if gone then None else Some slot)
  pub others : (j : Key) → key_eq j k ≡ false → slot_for new j ≡ slot_for old j
  pub separate : (j : Key) (i : ℕ) → key_eq j k ≡ false → slot_for old j ≡ Some i → nat_eq i slot ≡ false
  pub found : (i : ℕ) (j : Key) → key_at new i ≡ Some j → slot_for new j ≡ Some i

pub moved : (old new : Table) (k : Key) (slot : ℕ) (gone : Bool) → IsSound old → IsSlotFor old k slot → ((i : ℕ) → nat_eq i slot ≡ false → key_at new i ≡ key_at old i) → key_at new slot ≡ (if gone then None else Some k) → Moved old new k slot gone
moved old new k slot gone s own elsewhere here = record {
  own_old = own;
  own_new = own_new gone here;
  others = others;
  separate = separate;
  found = found;
}
  where
    -- where k had its slot
    was : (i : ℕ) → key_at old i ≡ Some k → nat_eq i slot ≡ false → ⊥
    was i h e = elim own [
      | inl o ↦ apart-numbers i slot e (some-same i slot (sym (s.found i k h) ∙ o))
      | inr o ↦ some-none i (sym (s.found i k h) ∙ o.0)
    ]

    -- the slot is no other key's
    theirs : (j : Key) → key_eq j k ≡ false → key_at old slot ≡ Some j → ⊥
    theirs j e h = elim own [
      | inl o ↦ true-false (sym (key_eq-same j) ∙ ap (key_eq j) (some-same j k (sym h ∙ key_at-found old k slot o)) ∙ e)
      | inr o ↦ some-none j (sym h ∙ o.1)
    ]

    given : (c : Bool) (j : Key) → (let o : Option Key = if c then None else Some k in o ≡ Some j) → k ≡ j
    given true j h = absurd (some-none j (sym h))
    given false j h = some-same k j h

    at_slot : (i : ℕ) (j : Key) → key_at new i ≡ Some j → nat_eq i slot ≡ true → k ≡ j
    at_slot i j h e = given gone j (sym here ∙ ap (key_at new) (sym (equal i slot e)) ∙ h)

    only : (i : ℕ) → key_at new i ≡ Some k → i ≡ slot
    only i h =
        let go : (c : Bool) → nat_eq i slot ≡ c → i ≡ slot =
        elim [
          | true ↦ λ e. equal i slot e
          | false ↦ λ e. absurd (was i (sym (elsewhere i e) ∙ h) e)
        ] in
        go (nat_eq i slot) refl

    own_new : (c : Bool) → key_at new slot ≡ (if c then None else Some k) → slot_for new k ≡ (if c then None else Some slot)
    own_new true e = slot_for-none new k (λ i h. some-none k (sym h ∙ ap (key_at new) (only i h) ∙ e))
    own_new false e = slot_for-unique new k slot e only

    separate : (j : Key) (i : ℕ) → key_eq j k ≡ false → slot_for old j ≡ Some i → nat_eq i slot ≡ false
    separate j i e h =
        let go : (c : Bool) → nat_eq i slot ≡ c → nat_eq i slot ≡ false =
        elim [
          | true ↦ λ f. absurd (theirs j e (ap (key_at old) (sym (equal i slot f)) ∙ key_at-found old j i h))
          | false ↦ λ f. f
        ] in
        go (nat_eq i slot) refl

    -- another key stands where it stood
    stood : (j : Key) (i : ℕ) → key_eq j k ≡ false → key_at new i ≡ Some j → key_at old i ≡ Some j
    stood j i e h =
        let go : (c : Bool) → nat_eq i slot ≡ c → key_at old i ≡ Some j =
        elim [
          | true ↦ λ f. absurd (true-false (sym (key_eq-same j) ∙ ap (key_eq j) (sym (at_slot i j h f)) ∙ e))
          | false ↦ λ f. sym (elsewhere i f) ∙ h
        ] in
        go (nat_eq i slot) refl

    others : (j : Key) → key_eq j k ≡ false → slot_for new j ≡ slot_for old j
    others j e =
        let go : (o : Option ℕ) → slot_for old j ≡ o → slot_for new j ≡ o =
        elim [
          | None ↦ λ f. slot_for-none new j (λ i h. some-none i (sym (s.found i j (stood j i e h)) ∙ f))
          | Some i ↦ λ f. slot_for-unique new j i (elsewhere i (separate j i e f) ∙ key_at-found old j i f) (λ l h. some-same l i (sym (s.found l j (stood j l e h)) ∙ f))
        ] in
        go (slot_for old j) refl

    found : (i : ℕ) (j : Key) → key_at new i ≡ Some j → slot_for new j ≡ Some i
    found i j h =
        let go : (c : Bool) → key_eq j k ≡ c → slot_for new j ≡ Some i =
        elim [
          | true ↦ λ e. (let same_key : j ≡ k = key_eq-true j k e in
              let there : key_at new i ≡ Some k = h ∙ ap (λ x. let o : Option Key = Some x in o) same_key in
              ap (slot_for new) same_key ∙ slot_for-unique new k i there (λ l g. only l g ∙ sym (only i there)))
          | false ↦ λ e. others j e ∙ s.found i j (stood j i e h)
        ] in
        go (key_eq j k) refl

-- what is said of each slot, said of each key: only the key of the slot may see another value
pub by-moved : {X : Type 0} (old new : Table) (k : Key) (slot : ℕ) (gone : Bool) → Moved old new k slot gone → (f g : ℕ → X) (d : X) → (gone ≡ true → g slot ≡ d) → ((i : ℕ) → nat_eq i slot ≡ false → g i ≡ f i) → (j : Key) →
    by (slot_for new j) g d ≡ (if key_eq j k then g slot else by (slot_for old j) f d)
by-moved old new k slot gone m f g d vacated elsewhere j =
    let go : (c : Bool) → key_eq j k ≡ c → by (slot_for new j) g d ≡ (if c then g slot else by (slot_for old j) f d) =
    elim [
      | true ↦ λ e. ap (λ x. by (slot_for new x) g d) (key_eq-true j k e) ∙ ap (λ o. by o g d) m.own_new ∙ own gone vacated
      | false ↦ λ e. ap (λ o. by o g d) (m.others j e) ∙ other (slot_for old j) (λ i h. m.separate j i e h)
    ] in
    go (key_eq j k) refl
  where
    own : (c : Bool) → (c ≡ true → g slot ≡ d) → by (if c then None else Some slot) g d ≡ g slot
    own true v = sym (v refl)
    own false v = refl

    other : (o : Option ℕ) → ((i : ℕ) → o ≡ Some i → nat_eq i slot ≡ false) → by o g d ≡ by o f d
    other None h = refl
    other (Some i) h = elsewhere i (h i refl)

-- what the key saw before
pub by-own : {X : Type 0} (old new : Table) (k : Key) (slot : ℕ) (gone : Bool) → Moved old new k slot gone → (f : ℕ → X) (d : X) → (key_at old slot ≡ None → f slot ≡ d) → by (slot_for old k) f d ≡ f slot
by-own old new k slot gone m f d vacant = elim m.own_old [
  | inl o ↦ ap (λ x. by x f d) o
  | inr o ↦ ap (λ x. by x f d) o.0 ∙ sym (vacant o.1)
]

-- where no slot sees another value, no key does
pub by-same : {X : Type 0} (old new : Table) (k : Key) (slot : ℕ) (gone : Bool) → Moved old new k slot gone → (f g : ℕ → X) (d : X) → (key_at old slot ≡ None → f slot ≡ d) → (gone ≡ true → g slot ≡ d) → ((i : ℕ) → g i ≡ f i) → (j : Key) →
    by (slot_for new j) g d ≡ by (slot_for old j) f d
by-same old new k slot gone m f g d vacant vacated everywhere j =
    by-moved old new k slot gone m f g d vacated (λ i e. everywhere i) j
    ∙ (let go : (c : Bool) → key_eq j k ≡ c → (if c then g slot else by (slot_for old j) f d) ≡ by (slot_for old j) f d =
    elim [
      | true ↦ λ e. everywhere slot ∙ sym (by-own old new k slot gone m f d vacant) ∙ ap (λ x. by (slot_for old x) f d) (sym (key_eq-true j k e))
      | false ↦ λ e. refl
    ] in
    go (key_eq j k) refl)
