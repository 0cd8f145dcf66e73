-- What the calls of an outbox do to its counts and its losses.
use Rattle.std.proofs.Common.{◌≡◌, ℕ, suc, zero, ◌+◌, ◌-◌, ◌<◌, ◌≤◌, Bool, true, false, ◌||◌, if◌then◌else◌, nat_eq, nat_lt, List, [], ◌∷◌, ◌++◌, length, map, replicate, refl, ap, sym, ◌∙◌, subst, arith, length-set, length-append}
use Rattle.std.specs.Prelude.{min, slice_index, slice_set, slice_get, Some, None, drop}
use Rattle.std.proofs.Math.Nat.{min-eq_left}
use Rattle.std.proofs.lemmas.Bool.Decides.{nat_tests}
use Rattle.std.proofs.lemmas.Bool.{eqb-true}
use Rattle.std.proofs.lemmas.List.{get_or-set_same, get_or-set_other}
use Rattle.qd_pend.specs.Slots.{has, first_in, rest_of, EachBelow}
use Rattle.qd_sub.proofs.SinceLaws.{same_number}
use Rattle.qd_stream.specs.declared.outbox.Waiting.{Waiting}
use Rattle.qd_stream.specs.declared.outbox.SlotLoss.{SlotLoss}
use Rattle.qd_stream.specs.Items.{weight}
use Rattle.qd_stream.specs.Outboxes.{Outstanding, with_waiting, with_first_lost, has_lost, raised, with_lost, first_of, has_waiting, waits_for, lost_by, IsSound}

apart : (m n : ℕ) → nat_eq m n ≡ false → (m ≡ n → ⊥)
apart m n h e = let t = same_number m in let f : nat_eq m n ≡ true = sym (ap (nat_eq m) e) ∙ t in absurd (cc (f, h))

pub waits-le : (ws : List Waiting) (s : ℕ) → waits_for ws s ≤ length ws
unfolding waits_for
waits-le [] s = omega arith
waits-le (w ∷ ws) s = elim (nat_eq s w.slot) as (λ c. (if c then suc (waits_for ws s) else waits_for ws s) ≤ suc (length ws)) [
  | true ↦ omega (arith, waits-le ws s)
  | false ↦ omega (arith, waits-le ws s)
]

waits-end : (ws : List Waiting) (w : Waiting) (s : ℕ) → waits_for (ws ++ w ∷ []) s ≡ waits_for ws s + (if nat_eq s w.slot then 1 else 0)
unfolding waits_for
waits-end [] w s = elim (nat_eq s w.slot) as (λ c. (if c then suc 0 else 0) ≡ 0 + (if c then 1 else 0)) [ true ↦ omega arith | false ↦ omega arith ]
waits-end (v ∷ ws) w s =
    let rest = waits-end ws w s in
    elim (nat_eq s v.slot) as (λ c. (if c then suc (waits_for (ws ++ w ∷ []) s) else waits_for (ws ++ w ∷ []) s) ≡ (if c then suc (waits_for ws s) else waits_for ws s) + (if nat_eq s w.slot then 1 else 0)) [
      | true ↦ omega (arith, rest)
      | false ↦ rest
    ]

-- a slot is counted where an item of it waits
pub waits-has : (ws : List Waiting) (s : ℕ) → has_waiting ws s ≡ nat_lt 0 (waits_for ws s)
unfolding waits_for
waits-has [] s = refl
waits-has (w ∷ ws) s = elim (nat_eq s w.slot) as (λ c. (c || has_waiting ws s) ≡ nat_lt 0 (if c then suc (waits_for ws s) else waits_for ws s)) [
  | true ↦ sym (positive (waits_for ws s))
  | false ↦ waits-has ws s
]
  where
    positive : (n : ℕ) → nat_lt 0 (suc n) ≡ true
    positive n = grind (arith, nat_tests)

-- an item more is counted
pub counted-more : (waits : List ℕ) (ws : List Waiting) (w : Waiting) → ((s : ℕ) → slice_index waits s ≡ waits_for ws s) → w.slot < length waits →
    (s : ℕ) → slice_index (slice_set waits w.slot (slice_index waits w.slot + 1)) s ≡ waits_for (ws ++ w ∷ []) s
counted-more waits ws w counted below s =
    let more = waits-end ws w s in
    let go : (c : Bool) → nat_eq s w.slot ≡ c → slice_index (slice_set waits w.slot (slice_index waits w.slot + 1)) s ≡ waits_for ws s + (if c then 1 else 0) =
    elim [
      | true ↦ λ e. (let same : s ≡ w.slot = eqb-true s w.slot e in
          ap (slice_index (slice_set waits w.slot (slice_index waits w.slot + 1))) same ∙ get_or-set_same waits w.slot (slice_index waits w.slot + 1) 0 below ∙ ap (λ n. n + 1) (counted w.slot ∙ ap (waits_for ws) (sym same)))
      | false ↦ λ e. (let none : waits_for ws s ≡ waits_for ws s + 0 = omega arith in get_or-set_other waits w.slot s (slice_index waits w.slot + 1) 0 (apart s w.slot e) ∙ counted s ∙ none)
    ] in
    go (nat_eq s w.slot) refl ∙ sym more

-- the first item is counted no more
pub counted-less : (waits : List ℕ) (w : Waiting) (ws : List Waiting) → ((s : ℕ) → slice_index waits s ≡ waits_for (w ∷ ws) s) → w.slot < length waits →
    (s : ℕ) → slice_index (slice_set waits w.slot (slice_index waits w.slot - 1)) s ≡ waits_for ws s
unfolding waits_for
counted-less waits w ws counted below s =
    let go : (c : Bool) → nat_eq s w.slot ≡ c → slice_index (slice_set waits w.slot (slice_index waits w.slot - 1)) s ≡ waits_for ws s =
    elim [
      | true ↦ λ e.
          let same : s ≡ w.slot = eqb-true s w.slot e in
          let had : slice_index waits w.slot ≡ suc (waits_for ws w.slot) = counted w.slot ∙ rw (same_number w.slot) refl in
          let left : slice_index waits w.slot - 1 ≡ waits_for ws w.slot = omega arith in
          ap (slice_index (slice_set waits w.slot (slice_index waits w.slot - 1))) same ∙ get_or-set_same waits w.slot (slice_index waits w.slot - 1) 0 below ∙ left ∙ ap (waits_for ws) (sym same)
      | false ↦ λ e. get_or-set_other waits w.slot s (slice_index waits w.slot - 1) 0 (apart s w.slot e) ∙ counted s ∙ rw e refl
    ] in
    go (nat_eq s w.slot) refl

-- the first one has been counted
pub counted-first : (waits : List ℕ) (w : Waiting) (ws : List Waiting) → ((s : ℕ) → slice_index waits s ≡ waits_for (w ∷ ws) s) → 0 < slice_index waits w.slot
unfolding waits_for
counted-first waits w ws counted = let had : slice_index waits w.slot ≡ suc (waits_for ws w.slot) = counted w.slot ∙ rw (same_number w.slot) refl in omega arith

pub has_waiting-first : (w : Waiting) (ws : List Waiting) → has_waiting (w ∷ ws) w.slot ≡ true
has_waiting-first w ws = rw (same_number w.slot) refl

pub has_waiting-rest : (w : Waiting) (ws : List Waiting) (s : ℕ) → has_waiting ws s ≡ true → has_waiting (w ∷ ws) s ≡ true
has_waiting-rest w ws s h = elim (nat_eq s w.slot) as (λ c. (c || has_waiting ws s) ≡ true) [ true ↦ refl | false ↦ h ]

-- who waits with one more
pub has_waiting-end : (ws : List Waiting) (w : Waiting) (s : ℕ) → has_waiting (ws ++ w ∷ []) s ≡ (nat_eq s w.slot || has_waiting ws s)
has_waiting-end [] w s = refl
has_waiting-end (v ∷ ws) w s = ap (λ b. nat_eq s v.slot || b) (has_waiting-end ws w s) ∙ swap (nat_eq s v.slot) (nat_eq s w.slot) (has_waiting ws s)
  where
    swap : (a b c : Bool) → (a || (b || c)) ≡ (b || (a || c))
    swap true true c = refl
    swap true false c = refl
    swap false b c = refl

-- counts beyond the end are 0
pub grown : (xs : List ℕ) (n s : ℕ) → slice_index (xs ++ replicate n 0) s ≡ slice_index xs s
grown [] zero s = refl
grown [] (suc n) zero = refl
grown [] (suc n) (suc s) = grown [] n s ∙ nothing s
  where
    nothing : (s : ℕ) → slice_index [] s ≡ slice_index [] (suc s)
    nothing s = refl
grown (x ∷ xs) n zero = refl
grown (x ∷ xs) n (suc s) = grown xs n s

pub lost-has : (losses list : List ℕ) (s : ℕ) → has_lost (lost_by losses list) s ≡ has list s
lost-has losses [] s = refl
lost-has losses (x ∷ xs) s = ap (λ b. nat_eq s x || b) (lost-has losses xs s)

-- the same counts are the same losses
pub lost-same : (losses other list : List ℕ) → ((s : ℕ) → slice_index losses s ≡ slice_index other s) → lost_by losses list ≡ lost_by other list
lost-same losses other [] h = refl
lost-same losses other (x ∷ xs) h = let one = h x in λ i. record { slot = x; count = one i } ∷ lost-same losses other xs h i

or-left : (a b : Bool) → (a || b) ≡ false → a ≡ false
or-left true b h = h
or-left false b h = refl

or-right : (a b : Bool) → (a || b) ≡ false → b ≡ false
or-right true b h = cc
or-right false b h = h

lost-set_other : (losses list : List ℕ) (slot n : ℕ) → has list slot ≡ false → lost_by (slice_set losses slot n) list ≡ lost_by losses list
lost-set_other losses [] slot n h = refl
lost-set_other losses (x ∷ xs) slot n h =
    let out = apart slot x (or-left (nat_eq slot x) (has xs slot) h) in
    let one : slice_index (slice_set losses slot n) x ≡ slice_index losses x = get_or-set_other losses slot x n 0 (λ e. out (sym e)) in
    λ i. record { slot = x; count = one i } ∷ lost-set_other losses xs slot n (or-right (nat_eq slot x) (has xs slot) h) i

lost-end : (losses list : List ℕ) (slot : ℕ) → lost_by losses (list ++ slot ∷ []) ≡ lost_by losses list ++ record { slot = slot; count = slice_index losses slot } ∷ []
lost-end losses [] slot = refl
lost-end losses (x ∷ xs) slot = ap (λ ls. record { slot = x; count = slice_index losses x } ∷ ls) (lost-end losses xs slot)

lost-set : (losses list : List ℕ) (slot more : ℕ) → slot < length losses →
    lost_by (slice_set losses slot (min (slice_index losses slot + more) 18446744073709551615)) list ≡ map (raised slot more) (lost_by losses list)
lost-set losses [] slot more below = refl
lost-set losses (x ∷ xs) slot more below =
    let n = min (slice_index losses slot + more) 18446744073709551615 in
    let up : SlotLoss = record { slot = x; count = min (slice_index losses x + more) 18446744073709551615 } in
    let still : SlotLoss = record { slot = x; count = slice_index losses x } in
    let after : SlotLoss = record { slot = x; count = slice_index (slice_set losses slot n) x } in
    let go : (c : Bool) → nat_eq slot x ≡ c → after ≡ (if c then up else still) =
    elim [
      | true ↦ λ e.
          let same : slot ≡ x = eqb-true slot x e in
          let one : slice_index (slice_set losses slot n) x ≡ min (slice_index losses x + more) 18446744073709551615 = ap (slice_index (slice_set losses slot n)) (sym same) ∙ get_or-set_same losses slot n 0 below ∙ ap (λ s. min (slice_index losses s + more) 18446744073709551615) same in
          λ i. record { slot = x; count = one i }
      | false ↦ λ e. (let one : slice_index (slice_set losses slot n) x ≡ slice_index losses x = get_or-set_other losses slot x n 0 (λ f. apart slot x e (sym f)) in λ i. record { slot = x; count = one i })
    ] in
    λ i. go (nat_eq slot x) refl i ∷ lost-set losses xs slot more below i

-- a slot that is lossy already loses more
pub lose-more : (losses list : List ℕ) (slot more : ℕ) → has list slot ≡ true → slot < length losses →
    lost_by (slice_set losses slot (min (slice_index losses slot + more) 18446744073709551615)) list ≡ with_lost (lost_by losses list) slot more
unfolding with_lost
lose-more losses list slot more h below = let there : has_lost (lost_by losses list) slot ≡ true = lost-has losses list slot ∙ h in rw there (lost-set losses list slot more below)

-- a slot loses for the first time
pub lose-new : (losses list : List ℕ) (slot more : ℕ) → has list slot ≡ false → slot < length losses → more ≤ 18446744073709551615 → lost_by (slice_set losses slot more) (list ++ slot ∷ []) ≡ with_lost (lost_by losses list) slot more
unfolding with_lost
lose-new losses list slot more h below small =
    let there : has_lost (lost_by losses list) slot ≡ false = lost-has losses list slot ∙ h in
    let count : slice_index (slice_set losses slot more) slot ≡ min more 18446744073709551615 = get_or-set_same losses slot more 0 below ∙ sym (min-eq_left small) in
    rw there (lost-end (slice_set losses slot more) list slot ∙ (λ i. lost-set_other losses list slot more h i ++ record { slot = slot; count = count i } ∷ []))

-- the first loss, and the other ones
pub lost-first : (losses list : List ℕ) (slot : ℕ) → first_in list ≡ Some slot → first_of (lost_by losses list) ≡ Some record { slot = slot; count = slice_index losses slot }
lost-first losses [] slot h = cc
lost-first losses (x ∷ xs) slot h = let same : x ≡ slot = cc in λ i. Some record { slot = same i; count = slice_index losses (same i) }

pub lost-none : (losses list : List ℕ) → first_in list ≡ None → first_of (lost_by losses list) ≡ None
lost-none losses [] h = refl
lost-none losses (x ∷ xs) h = cc

pub lost-rest : (losses list : List ℕ) → lost_by losses (rest_of list) ≡ drop 1 (lost_by losses list)
lost-rest losses [] = refl
lost-rest losses (x ∷ xs) = refl

pub has-rest : (list : List ℕ) (s : ℕ) → has (rest_of list) s ≡ true → has list s ≡ true
has-rest [] s h = h
has-rest (x ∷ xs) s h = elim (nat_eq s x) as (λ c. (c || has xs s) ≡ true) [ true ↦ refl | false ↦ h ]

pub has-first : (list : List ℕ) (slot : ℕ) → first_in list ≡ Some slot → has list slot ≡ true
has-first [] slot h = cc
has-first (x ∷ xs) slot h = let same : x ≡ slot = cc in ap (has (x ∷ xs)) (sym same) ∙ rw (same_number x) refl

-- a slot put at the end
pub below-end : (slots : ℕ) (list : List ℕ) (slot : ℕ) → slot < slots → EachBelow slots list → EachBelow slots (list ++ slot ∷ [])
below-end slots list slot h all s there = bool-or (nat_eq s slot) (has list s) (s < slots) (has-end list slot s there)
    (λ e. let same : s ≡ slot = eqb-true s slot e in omega arith) (λ e. all s e)
  where
    has-end : (list : List ℕ) (slot s : ℕ) → has (list ++ slot ∷ []) s ≡ true → (nat_eq s slot || has list s) ≡ true
    has-end [] slot s h = h
    has-end (x ∷ xs) slot s h =
        let go : (c d : Bool) → nat_eq s x ≡ c → nat_eq s slot ≡ d → (d || (c || has xs s)) ≡ true =
        elim [
          | true ↦ elim [ true ↦ λ e f. refl | false ↦ λ e f. refl ]
          | false ↦ elim [
            | true ↦ λ e f. refl
            | false ↦ λ e f. (let g = has-end xs slot s (rw e at h) in rw f at g)
          ]
        ] in
        go (nat_eq s x) (nat_eq s slot) refl refl

    bool-or : (a b : Bool) (P : Type 0) → (a || b) ≡ true → (a ≡ true → P) → (b ≡ true → P) → P
    bool-or true b P h p q = p refl
    bool-or false b P h p q = q h

-- the first of a list of which something comes first
pub first-of : (ws : List Waiting) (o : Waiting) → slice_get ws 0 ≡ Some o → (rest : List Waiting) × (ws ≡ o ∷ rest)
first-of [] o h = absurd (cc h)
first-of (w ∷ ws) o h = let same : w ≡ o = cc in (ws, λ i. same i ∷ ws)

drop-first : (ws rest : List Waiting) (o : Waiting) → ws ≡ o ∷ rest → drop 1 ws ≡ rest
drop-first ws rest o e = ap (drop 1) e

used-more : (items : List Waiting) (w : Waiting) (slots : ℕ) → w.slot < slots → ((slot : ℕ) → has_waiting items slot ≡ true → slot < slots) → (slot : ℕ) → has_waiting (items ++ w ∷ []) slot ≡ true → slot < slots
used-more items w slots below used slot h =
    let both = sym (has_waiting-end items w slot) ∙ h in
    let go : (c : Bool) → nat_eq slot w.slot ≡ c → slot < slots =
    elim [
      | true ↦ λ e. (let same : slot ≡ w.slot = eqb-true slot w.slot e in omega arith)
      | false ↦ λ e. used slot (rw e at both)
    ] in
    go (nat_eq slot w.slot) refl

-- fewer than cap wait, and one more comes
pub sound-more : (cap : ℕ) (items : List Waiting) (waits losses list : List ℕ) (slots : ℕ) (w : Waiting) → IsSound cap items waits losses list slots → w.slot < slots → length items < cap →
    IsSound cap (items ++ w ∷ []) (slice_set waits w.slot (slice_index waits w.slot + 1)) losses list slots
sound-more cap items waits losses list slots w s below few =
    let size : length (items ++ w ∷ []) ≡ length items + 1 = length-append items (w ∷ []) in
    let same : length (slice_set waits w.slot (slice_index waits w.slot + 1)) ≡ length waits = length-set waits w.slot (slice_index waits w.slot + 1) in
    let room = s.room.0 in
    record {
      few = s.few;
      within = omega arith;
      counted = counted-more waits items w s.counted (omega arith);
      room = (omega arith, s.room.1);
      used = used-more items w slots below s.used;
      below = s.below;
    }

-- the first item leaves
pub sound-less : (cap : ℕ) (o : Waiting) (rest : List Waiting) (waits losses list : List ℕ) (slots : ℕ) → length rest ≤ cap → cap < 65536 → ((slot : ℕ) → slice_index waits slot ≡ waits_for (o ∷ rest) slot) → slots ≤ length waits → slots ≤ length losses →
    ((slot : ℕ) → has_waiting (o ∷ rest) slot ≡ true → slot < slots) → EachBelow slots list → IsSound cap rest (slice_set waits o.slot (slice_index waits o.slot - 1)) losses list slots
sound-less cap o rest waits losses list slots within few counted wide deep used below =
    let same : length (slice_set waits o.slot (slice_index waits o.slot - 1)) ≡ length waits = length-set waits o.slot (slice_index waits o.slot - 1) in
    let here : o.slot < slots = used o.slot (has_waiting-first o rest) in
    record {
      few = few;
      within = within;
      counted = counted-less waits o rest counted (omega arith);
      room = (omega arith, deep);
      used = λ slot h. used slot (has_waiting-rest o rest slot h);
      below = below;
    }

-- what a full ring lets go, and what it does not
pub let-go : (cap : ℕ) (items : List Waiting) (w o : Waiting) → (if nat_lt (length items) cap then None else slice_get (items ++ w ∷ []) 0) ≡ Some o → (nat_lt (length items) cap ≡ false) × (slice_get (items ++ w ∷ []) 0 ≡ Some o)
let-go cap items w o h =
    let go : (c : Bool) → nat_lt (length items) cap ≡ c → (if c then None else slice_get (items ++ w ∷ []) 0) ≡ Some o → (nat_lt (length items) cap ≡ false) × (slice_get (items ++ w ∷ []) 0 ≡ Some o) =
    elim [ true ↦ λ e f. absurd (cc f) | false ↦ λ e f. (e, f) ] in
    go (nat_lt (length items) cap) refl h

pub let-none : (cap : ℕ) (items : List Waiting) (w : Waiting) → (if nat_lt (length items) cap then None else slice_get (items ++ w ∷ []) 0) ≡ None → nat_lt (length items) cap ≡ true
let-none cap items w h =
    let go : (c : Bool) → nat_lt (length items) cap ≡ c → (if c then None else slice_get (items ++ w ∷ []) 0) ≡ None → c ≡ true =
    elim [ true ↦ λ e f. refl | false ↦ λ e f. absurd (some items f) ] in
    go (nat_lt (length items) cap) refl h
  where
    some : (xs : List Waiting) → slice_get (xs ++ w ∷ []) 0 ≡ None → ⊥
    some [] f = absurd (cc f)
    some (x ∷ xs) f = absurd (cc f)

pub lt-true : (m n : ℕ) → nat_lt m n ≡ true → m < n
lt-true m n h = grind (arith, nat_tests)

pub lt-false : (m n : ℕ) → nat_lt m n ≡ false → n ≤ m
lt-false m n h = grind (arith, nat_tests)

-- what the ring keeps
pub kept-more : (cap : ℕ) (items : List Waiting) (w : Waiting) → length items < cap → drop (length (items ++ w ∷ []) - cap) (items ++ w ∷ []) ≡ items ++ w ∷ []
kept-more cap items w few =
    let size : length (items ++ w ∷ []) ≡ length items + 1 = length-append items (w ∷ []) in
    let none : length (items ++ w ∷ []) - cap ≡ 0 = omega arith in
    ap (λ n. drop n (items ++ w ∷ [])) none

pub kept-over : (cap : ℕ) (items : List Waiting) (w : Waiting) → length items ≤ cap → cap ≤ length items → drop (length (items ++ w ∷ []) - cap) (items ++ w ∷ []) ≡ drop 1 (items ++ w ∷ [])
kept-over cap items w within full =
    let size : length (items ++ w ∷ []) ≡ length items + 1 = length-append items (w ∷ []) in
    let one : length (items ++ w ∷ []) - cap ≡ 1 = omega arith in
    ap (λ n. drop n (items ++ w ∷ [])) one

-- nothing is owed at first
pub sound-empty : (cap : ℕ) → cap < 65536 → IsSound cap [] [] [] [] 0
unfolding waits_for
sound-empty cap few = record {
  few = few;
  within = omega arith;
  counted = λ slot. refl;
  room = (omega arith, omega arith);
  used = λ slot h. cc;
  below = λ slot h. cc;
}

-- the item that waits longest leaves
pub sound-pop : (cap : ℕ) (items : List Waiting) (waits losses list : List ℕ) (slots : ℕ) (o : Waiting) → IsSound cap items waits losses list slots → slice_get items 0 ≡ Some o →
    (o.slot < length waits) × (0 < slice_index waits o.slot) × IsSound cap (drop 1 items) (slice_set waits o.slot (slice_index waits o.slot - 1)) losses list slots
sound-pop cap [] waits losses list slots o s h = absurd (cc h)
sound-pop cap (w ∷ ws) waits losses list slots o s h =
    let same : w ≡ o = cc in
    let within : length ws ≤ cap = omega (arith, s.within) in
    let here = s.used w.slot (has_waiting-first w ws) in
    let all : (w.slot < length waits) × (0 < slice_index waits w.slot) × IsSound cap ws (slice_set waits w.slot (slice_index waits w.slot - 1)) losses list slots =
    (omega (arith, s.room.0), counted-first waits w ws s.counted, sound-less cap w ws waits losses list slots within s.few s.counted s.room.0 s.room.1 s.used s.below) in
    subst (λ (v : Waiting). (v.slot < length waits) × (0 < slice_index waits v.slot) × IsSound cap ws (slice_set waits v.slot (slice_index waits v.slot - 1)) losses list slots) same all

-- an item comes and the oldest is lost
pub sound-over : (cap : ℕ) (items : List Waiting) (waits losses list : List ℕ) (slots : ℕ) (w o : Waiting) → IsSound cap items waits losses list slots → w.slot < slots → slice_get (items ++ w ∷ []) 0 ≡ Some o → (waits1 : List ℕ) →
    waits1 ≡ slice_set waits w.slot (slice_index waits w.slot + 1) →
    (o.slot < length waits) × (o.slot < slots) × (0 < slice_index waits1 o.slot) × ((losses1 list1 : List ℕ) → slots ≤ length losses1 → EachBelow slots list1 → IsSound cap (drop 1 (items ++ w ∷ [])) (slice_set waits1 o.slot (slice_index waits1 o.slot - 1)) losses1 list1 slots)
sound-over cap items waits losses list slots w o s below h waits1 e =
    let found = first-of (items ++ w ∷ []) o h in
    let rest = found.0 in
    let size : length (items ++ w ∷ []) ≡ length items + 1 = length-append items (w ∷ []) in
    let size1 : length (items ++ w ∷ []) ≡ suc (length rest) = ap length found.1 in
    let within : length rest ≤ cap = omega (arith, s.within) in
    let wide : length waits1 ≡ length waits = ap length e ∙ length-set waits w.slot (slice_index waits w.slot + 1) in
    let here : w.slot < length waits = omega (arith, s.room.0) in
    let counted : (slot : ℕ) → slice_index waits1 slot ≡ waits_for (o ∷ rest) slot = λ slot. ap (λ ws. slice_index ws slot) e ∙ (counted-more waits items w s.counted here slot ∙ ap (λ ws. waits_for ws slot) found.1) in
    let used : (slot : ℕ) → has_waiting (o ∷ rest) slot ≡ true → slot < slots = λ slot t. used-more items w slots below s.used slot (ap (λ ws. has_waiting ws slot) found.1 ∙ t) in
    let first = used o.slot (has_waiting-first o rest) in
    let wider : slots ≤ length waits1 = omega (arith, s.room.0) in (
      omega (arith, s.room.0),
      first,
      counted-first waits1 o rest counted,
      (λ losses1 list1 deep listed. subst (λ (ws : List Waiting). IsSound cap ws (slice_set waits1 o.slot (slice_index waits1 o.slot - 1)) losses1 list1 slots) (sym (drop-first (items ++ w ∷ []) rest o found.1))
          (sound-less cap o rest waits1 losses1 list1 slots within s.few counted wider deep used listed)),
    )

-- an item more can be counted
pub fits-more : (cap : ℕ) (items : List Waiting) (waits losses list : List ℕ) (slots slot : ℕ) → IsSound cap items waits losses list slots → slice_index waits slot + 1 < 18446744073709551616
fits-more cap items waits losses list slots slot s = omega (arith, s.counted slot, waits-le items slot, s.within, s.few)

-- the first loss leaves
pub sound-report : (cap : ℕ) (items : List Waiting) (waits losses list : List ℕ) (slots : ℕ) → IsSound cap items waits losses list slots → IsSound cap items waits losses (rest_of list) slots
sound-report cap items waits losses list slots s = record { few = s.few; within = s.within; counted = s.counted; room = s.room; used = s.used; below = λ slot h. s.below slot (has-rest list slot h) }

-- what the view is where one more waits
pub view-more : (o : Outstanding) (w : Waiting) → nat_lt (length o.items) o.cap ≡ true → record { cap = o.cap; items = drop (length (o.items ++ w ∷ []) - o.cap) (o.items ++ w ∷ []); lost = o.lost; slots = o.slots } ≡ with_waiting o w
unfolding with_waiting
view-more o w h = let same = kept-more o.cap o.items w (lt-true (length o.items) o.cap h) in rw h (ap (λ (ws : List Waiting). let v : Outstanding = record { cap = o.cap; items = ws; lost = o.lost; slots = o.slots } in v) same)

pub view-over : (o : Outstanding) (w first : Waiting) (lost : List SlotLoss) → length o.items ≤ o.cap → nat_lt (length o.items) o.cap ≡ false → slice_get (o.items ++ w ∷ []) 0 ≡ Some first → lost ≡ with_lost o.lost first.slot (weight first.item) →
    record { cap = o.cap; items = drop (length (o.items ++ w ∷ []) - o.cap) (o.items ++ w ∷ []); lost = lost; slots = o.slots } ≡ with_waiting o w
unfolding with_waiting
view-over o w first lost within h g e =
    let same = kept-over o.cap o.items w within (lt-false (length o.items) o.cap h) in
    let found = first-of (o.items ++ w ∷ []) first g in
    let losses : lost ≡ with_first_lost o.lost (o.items ++ w ∷ []) = e ∙ sym (ap (with_first_lost o.lost) found.1) in
    rw h (λ i. let v : Outstanding = record { cap = o.cap; items = same i; lost = losses i; slots = o.slots } in v)

-- what is owed is counted
pub owes-counted : (cap : ℕ) (items : List Waiting) (waits losses list : List ℕ) (slots slot : ℕ) → IsSound cap items waits losses list slots → (has list slot || nat_lt 0 (slice_index waits slot)) ≡ (has_lost (lost_by losses list) slot || has_waiting items slot)
owes-counted cap items waits losses list slots slot s =
    ap (λ b. has list slot || b) (ap (nat_lt 0) (s.counted slot) ∙ sym (waits-has items slot)) ∙ ap (λ b. b || has_waiting items slot) (sym (lost-has losses list slot))
