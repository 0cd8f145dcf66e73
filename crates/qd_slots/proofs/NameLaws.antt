-- Which key has which slot, after one is named or freed.
use Rattle.std.proofs.Common.{◌≡◌, ◌≢◌, ◌⊎◌, inl, inr, ℕ, zero, suc, ◌+◌, ◌-◌, ◌<◌, ◌≤◌, Bool, true, false, nat_eq, nat_lt, if◌then◌else◌, Option, Some, None, IfSome, List, [], ◌∷◌, ◌++◌, length, slice_set, get_or-set_other, get_or-set_same, add-one, refl, ap, sym, ◌∙◌, arith, subst}
use Rattle.std.proofs.lemmas.Bool.Decides.{nat_tests}
use Rattle.std.specs.List.{cons_option}
use Rattle.std.proofs.lemmas.List.{get_or_append_left, get_or-append_right, get_or_past}
use Rattle.qd_scheme.specs.declared.key.Key.{Key}
use Rattle.qd_scheme.specs.Keys.{key_eq}
use Rattle.qd_scheme.proofs.KeyLaws.{key_eq-same, key_eq-true}
use Rattle.qd_pend.proofs.ListLaws.{same, equal}
use Rattle.qd_slots.specs.Names.{NameList, is_name, slot_from, slot_in, name_at, named_in, nones, slots_with, IsFound}

pub at-same : (names : List (Option Key)) (i : ℕ) (o : Option Key) → i < length names → name_at (slice_set names i o) i ≡ o
at-same names i o h = get_or-set_same names i o None h

pub at-other : (names : List (Option Key)) (i j : ℕ) (o : Option Key) → j ≢ i → name_at (slice_set names i o) j ≡ name_at names j
at-other names i j o h = get_or-set_other names i j o None h

pub is_name-true : (k : Key) (o : Option Key) → is_name k o ≡ true → o ≡ Some k
is_name-true k None h = cc
is_name-true k (Some j) h = ap (λ x. let o : Option Key = Some x in o) (sym (key_eq-true k j h))

-- no slot is k's
slot_from-none : (n : ℕ) (names : List (Option Key)) (k : Key) → ((i : ℕ) → is_name k (name_at names i) ≡ false) → slot_from n names k ≡ None
unfolding slot_from
slot_from-none n [] k h = refl
slot_from-none n (o ∷ names) k h = rw (h 0) (slot_from-none (suc n) names k (λ i. h (suc i)))

-- where none was, k is found at the slot that it is given
slot_from-new : (n : ℕ) (names : List (Option Key)) (k : Key) (i : ℕ) → slot_from n names k ≡ None → i < length names → slot_from n (slice_set names i (Some k)) k ≡ Some (n + i)
unfolding slot_from
slot_from-new n [] k i h w = absurd (omega arith)
slot_from-new n (o ∷ names) k zero h w = rw (key_eq-same k) (ap (λ x. let s : Option ℕ = Some x in s) (omega arith))
slot_from-new n (o ∷ names) k (suc i) h w =
    let go : (b : Bool) → is_name k o ≡ b → (if is_name k o then Some n else slot_from (suc n) (slice_set names i (Some k)) k) ≡ Some (n + suc i) =
    elim [
      | true ↦ λ e. let z = rw e at h in cc
      | false ↦ λ e. rw e (slot_from-new (suc n) names k i (rw e at h) (omega arith) ∙ ap (λ x. let s : Option ℕ = Some x in s) (omega arith))
    ] in
    go (is_name k o) refl

-- a slot that is not q's, neither before nor after, changes nothing for q
slot_from-other : (n : ℕ) (names : List (Option Key)) (i : ℕ) (o : Option Key) (q : Key) → is_name q (name_at names i) ≡ false → is_name q o ≡ false → slot_from n (slice_set names i o) q ≡ slot_from n names q
unfolding slot_from
slot_from-other n [] i o q h k = refl
slot_from-other n (p ∷ names) zero o q h k = rw (h, k) refl
slot_from-other n (p ∷ names) (suc i) o q h k = ap (λ s. if is_name q p then Some n else s) (slot_from-other (suc n) names i o q h k)

pub slot_in-new : (names : List (Option Key)) (k : Key) (i : ℕ) → slot_in names k ≡ None → i < length names → slot_in (slice_set names i (Some k)) k ≡ Some i
slot_in-new names k i h w = slot_from-new 0 names k i h w ∙ ap (λ x. let s : Option ℕ = Some x in s) (omega arith)

pub slot_in-other : (names : List (Option Key)) (i : ℕ) (o : Option Key) (q : Key) → is_name q (name_at names i) ≡ false → is_name q o ≡ false → slot_in (slice_set names i o) q ≡ slot_in names q
slot_in-other names i o q h k = slot_from-other 0 names i o q h k

some-same : {X : Type 0} (x y : X) → (let a : Option X = Some x in let b : Option X = Some y in a ≡ b) → x ≡ y
some-same x y h = cc

-- the key of a slot is no other key
apart : (k q : Key) (o : Option Key) → o ≡ Some k → key_eq q k ≡ false → is_name q o ≡ false
apart k q o e h = ap (is_name q) e ∙ h

-- a freed key has no slot
pub slot_in-freed : (names : List (Option Key)) (k : Key) (i : ℕ) → IsFound names → name_at names i ≡ Some k → i < length names → slot_in (slice_set names i None) k ≡ None
slot_in-freed names k i found at w = slot_from-none 0 (slice_set names i None) k (λ j.
    let go : (b : Bool) → nat_eq j i ≡ b → (c : Bool) → is_name k (name_at (slice_set names i None) j) ≡ c → is_name k (name_at (slice_set names i None) j) ≡ false =
    elim [
      | true ↦ λ e c d. subst (λ (x : ℕ). is_name k (name_at (slice_set names i None) x) ≡ false) (sym (equal j i e)) (ap (is_name k) (at-same names i None w))
      | false ↦ λ e. elim [
        | true ↦ λ d.
            let other : j ≢ i = λ x. (let z : true ≡ false = sym (same j) ∙ ap (nat_eq j) x ∙ e in cc) in
            let there = sym (at-other names i j None other) ∙ is_name-true k _ d in
            absurd (other (some-same j i (sym (found j k there) ∙ found i k at)))
        | false ↦ λ d. d
      ]
    ] in
    go (nat_eq j i) refl (is_name k (name_at (slice_set names i None) j)) refl)

-- each key is still found once a new one is named
pub found-new : (names : List (Option Key)) (k : Key) (i : ℕ) → IsFound names → slot_in names k ≡ None → i < length names → name_at names i ≡ None → IsFound (slice_set names i (Some k))
found-new names k i found absent w vacant j q at =
    let go : (b : Bool) → nat_eq j i ≡ b → slot_in (slice_set names i (Some k)) q ≡ Some j =
    elim [
      | true ↦ λ e.
          let here = equal j i e in
          let one : k ≡ q = some-same k q (sym (at-same names i (Some k) w) ∙ ap (name_at (slice_set names i (Some k))) (sym here) ∙ at) in
          subst (λ (x : Key). slot_in (slice_set names i (Some k)) x ≡ Some j) one (slot_in-new names k i absent w ∙ ap (λ x. let s : Option ℕ = Some x in s) (sym here))
      | false ↦ λ e.
          let other : j ≢ i = λ x. (let z : true ≡ false = sym (same j) ∙ ap (nat_eq j) x ∙ e in cc) in
          let there = sym (at-other names i j (Some k) other) ∙ at in
          let was = found j q there in
          slot_in-other names i (Some k) q (ap (is_name q) vacant) (differ q (λ x. let z : slot_in names k ≡ Some j = subst (λ (y : Key). slot_in names y ≡ Some j) x was in cc)) ∙ was
    ] in
    go (nat_eq j i) refl
  where
    differ : (p : Key) → (p ≡ k → ⊥) → key_eq p k ≡ false
    differ p none =
        let go : (b : Bool) → key_eq p k ≡ b → b ≡ false =
        elim [ true ↦ λ e. absurd (none (key_eq-true p k e)) | false ↦ λ e. refl ] in
        go (key_eq p k) refl

-- and once one is freed
pub found-freed : (names : List (Option Key)) (k : Key) (i : ℕ) → IsFound names → name_at names i ≡ Some k → i < length names → IsFound (slice_set names i None)
found-freed names k i found at w j q there =
    let go : (b : Bool) → nat_eq j i ≡ b → slot_in (slice_set names i None) q ≡ Some j =
    elim [
      | true ↦ λ e. let z = sym (at-same names i None w) ∙ ap (name_at (slice_set names i None)) (sym (equal j i e)) ∙ there in cc
      | false ↦ λ e.
          let other : j ≢ i = λ x. (let z : true ≡ false = sym (same j) ∙ ap (nat_eq j) x ∙ e in cc) in
          let was = found j q (sym (at-other names i j None other) ∙ there) in
          slot_in-other names i None q (ap (is_name q) at ∙ differ (λ x. other (some-same j i (sym was ∙ ap (slot_in names) x ∙ found i k at)))) refl ∙ was
    ] in
    go (nat_eq j i) refl
  where
    differ : (q ≡ k → ⊥) → key_eq q k ≡ false
    differ none =
        let go : (b : Bool) → key_eq q k ≡ b → b ≡ false =
        elim [ true ↦ λ e. absurd (none (key_eq-true q k e)) | false ↦ λ e. refl ] in
        go (key_eq q k) refl

-- free slots at the end are no key's
slot_from-nones : (m n : ℕ) (k : Key) → slot_from m (nones n) k ≡ None
unfolding slot_from nones
slot_from-nones m zero k = refl
slot_from-nones m (suc n) k = slot_from-nones (suc m) n k

slot_from-grown : (m : ℕ) (names : List (Option Key)) (n : ℕ) (k : Key) → slot_from m (names ++ nones n) k ≡ slot_from m names k
unfolding slot_from
slot_from-grown m [] n k = slot_from-nones m n k
slot_from-grown m (o ∷ names) n k = ap (λ s. if is_name k o then Some m else s) (slot_from-grown (suc m) names n k)

pub slot_in-grown : (names : List (Option Key)) (n : ℕ) (k : Key) → slot_in (names ++ nones n) k ≡ slot_in names k
slot_in-grown names n k = slot_from-grown 0 names n k

at-nones : (n i : ℕ) → name_at (nones n) i ≡ None
unfolding nones
at-nones zero i = refl
at-nones (suc n) zero = refl
at-nones (suc n) (suc i) = at-nones n i

pub below-or-not : (m k : ℕ) → (m < k) ⊎ (k ≤ m)
below-or-not m k =
    let go : (b : Bool) → nat_lt m k ≡ b → (m < k) ⊎ (k ≤ m) =
    elim [ true ↦ λ e. inl (grind (arith, nat_tests)) | false ↦ λ e. inr (grind (arith, nat_tests)) ] in
    go (nat_lt m k) refl

pub name_at-grown : (names : List (Option Key)) (n i : ℕ) → name_at (names ++ nones n) i ≡ name_at names i
name_at-grown names n i = elim (below-or-not i (length names)) [
  | inl h ↦ get_or_append_left names (nones n) None i h
  | inr h ↦ get_or-append_right names (nones n) (length names) i None refl h ∙ at-nones n (i - length names) ∙ sym (get_or_past names i None h)
]

pub found-grown : (names : List (Option Key)) (n : ℕ) → IsFound names → IsFound (names ++ nones n)
found-grown names n found i k at = slot_in-grown names n k ∙ found i k (sym (name_at-grown names n i) ∙ at)

pub nones-more : (n : ℕ) → nones (n + 1) ≡ nones n ++ None ∷ []
unfolding nones
nones-more zero = refl
nones-more (suc n) = ap nones (add-one (suc n)) ∙ ap (λ os. None ∷ os) (ap nones (sym (add-one n)) ∙ nones-more n)

slot_from-named : (m : ℕ) (names : List (Option Key)) (k : Key) (s : ℕ) → slot_from m names k ≡ Some s → (i : ℕ) × (s ≡ m + i) × (name_at names i ≡ Some k)
unfolding slot_from
slot_from-named m [] k s h = cc
slot_from-named m (o ∷ names) k s h =
    let go : (b : Bool) → is_name k o ≡ b → (i : ℕ) × (s ≡ m + i) × (name_at (o ∷ names) i ≡ Some k) =
    elim [
      | true ↦ λ e. (0, (let z = some-same m s (rw e at h) in omega arith), is_name-true k o e)
      | false ↦ λ e. let r = slot_from-named (suc m) names k s (rw e at h) in (suc r.0, (let z = r.1 in omega arith), r.2)
    ] in
    go (is_name k o) refl

-- the slot of a key has its name
pub slot_in-named : (names : List (Option Key)) (k : Key) (s : ℕ) → slot_in names k ≡ Some s → name_at names s ≡ Some k
slot_in-named names k s h = let r = slot_from-named 0 names k s h in ap (name_at names) (let z = r.1 in let e : s ≡ r.0 = omega arith in e) ∙ r.2

pub slot_of-named : (names : List (Option Key)) (k : Key) (o : Option ℕ) → o ≡ slot_in names k → IfSome o (λ s. name_at names s ≡ Some k)
slot_of-named names k None h = tt
slot_of-named names k (Some s) h = slot_in-named names k s (sym h)

-- one key more has a slot
pub named-more : (names : List (Option Key)) (i : ℕ) (k : Key) → i < length names → name_at names i ≡ None → length (named_in (slice_set names i (Some k))) ≡ length (named_in names) + 1
named-more [] i k l e = absurd (omega arith)
named-more (o ∷ names) zero k l e = let f : length (named_in (o ∷ names)) ≡ length (named_in names) = ap (λ p. length (cons_option p (named_in names))) e in omega (arith, f)
named-more (None ∷ names) (suc i) k l e = named-more names i k (omega (arith, l)) e
named-more (Some j ∷ names) (suc i) k l e = let f = named-more names i k (omega (arith, l)) e in omega (arith, f)

-- one less
pub named-less : (names : List (Option Key)) (i : ℕ) (k : Key) → i < length names → name_at names i ≡ Some k → length (named_in (slice_set names i None)) + 1 ≡ length (named_in names)
named-less [] i k l e = absurd (omega arith)
named-less (o ∷ names) zero k l e = let f : length (named_in (o ∷ names)) ≡ suc (length (named_in names)) = ap (λ p. length (cons_option p (named_in names))) e in omega (arith, f)
named-less (None ∷ names) (suc i) k l e = named-less names i k (omega (arith, l)) e
named-less (Some j ∷ names) (suc i) k l e = let f = named-less names i k (omega (arith, l)) e in omega (arith, f)

named_in-nones : (n : ℕ) → named_in (nones n) ≡ []
unfolding nones
named_in-nones zero = refl
named_in-nones (suc n) = named_in-nones n

-- free slots at the end name no key
pub named_in-grown : (names : List (Option Key)) (n : ℕ) → named_in (names ++ nones n) ≡ named_in names
named_in-grown [] n = named_in-nones n
named_in-grown (None ∷ names) n = named_in-grown names n
named_in-grown (Some k ∷ names) n = ap (λ ks. k ∷ ks) (named_in-grown names n)

-- where there is room, no slots are added to name so many; else at most so many are
pub slots_with-room : (n : NameList) (more : ℕ) → more ≤ n.room → slots_with n more ≡ length n.names
unfolding slots_with
slots_with-room n more h =
    let go : (b : Bool) → nat_lt n.room more ≡ b → (if b then length n.names + more else length n.names) ≡ length n.names =
    elim [ true ↦ λ e. absurd (grind (arith, nat_tests)) | false ↦ λ e. refl ] in
    go (nat_lt n.room more) refl

pub slots_with-more : (n : NameList) (more : ℕ) → n.room < more → slots_with n more ≡ length n.names + more
unfolding slots_with
slots_with-more n more h =
    let go : (b : Bool) → nat_lt n.room more ≡ b → (if b then length n.names + more else length n.names) ≡ length n.names + more =
    elim [ true ↦ λ e. refl | false ↦ λ e. absurd (grind (arith, nat_tests)) ] in
    go (nat_lt n.room more) refl

pub slots_with-least : (n : NameList) (more : ℕ) → length n.names ≤ slots_with n more
unfolding slots_with
slots_with-least n more =
    let go : (b : Bool) → length n.names ≤ (if b then length n.names + more else length n.names) =
    elim [ true ↦ omega arith | false ↦ omega arith ] in
    go (nat_lt n.room more)
