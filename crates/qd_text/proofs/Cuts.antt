-- A line's parts, cut one by one.
use Rattle.std.proofs.Common.{◌≡◌, ℕ, suc, ◌+◌, ◌-◌, ◌<◌, ◌≤◌, Bool, true, false, cond, List, [], ◌∷◌, length, take, drop, refl, sym, ◌∙◌, ap, arith, length-drop}
use Rattle.std.specs.Prelude.{not, ◌==◌, nat_le, slice_range, Ok}
use Rattle.std.specs.List.{prefix_len}
use Rattle.std.proofs.lemmas.List.Sums.{prefix_len-le-length}
use Rattle.std.proofs.lemmas.List.{drop-drop}
use Rattle.std.proofs.lemmas.Bool.Decides.{nat_tests}
use Rattle.qd_grammar.specs.Parts.{Part, parts_of, cut, with_front, a_part, no_part, fault}
use Rattle.qd_text.specs.Cursor.{left, part_seen}
use Rattle.qd_grammar.specs.declared.fault.Why.TheVariants.{Form}

abbrev pub is_inside : ℕ → Bool
is_inside b = not (b == 9)

abbrev pub front_part : ℕ → List ℕ → Part
front_part place xs = record { place = place; bytes = take (prefix_len is_inside xs) xs }

abbrev pub later_parts : ℕ → List ℕ → List Part
later_parts place xs = cond (prefix_len is_inside xs == length xs) [] (cut (place + prefix_len is_inside xs + 1) (drop (prefix_len is_inside xs + 1) xs))

same_eqb : (n m : ℕ) → (1 + n == suc m) ≡ (n == m)
same_eqb n m = grind (arith, nat_tests)

zero_not : (m : ℕ) → (0 == suc m) ≡ false
zero_not m = grind (arith, nat_tests)

front_same : (n b : ℕ) (xs : List ℕ) → b ∷ take n xs ≡ take (1 + n) (b ∷ xs)
front_same n b xs = let one : 1 + n ≡ suc n = omega arith in rw one refl

later_same : (place n b : ℕ) (xs : List ℕ) → cond (n == length xs) [] (cut (place + 1 + n + 1) (drop (n + 1) xs)) ≡ cond (1 + n == suc (length xs)) [] (cut (place + (1 + n) + 1) (drop (1 + n + 1) (b ∷ xs)))
later_same place n b xs =
    let p : place + (1 + n) + 1 ≡ place + 1 + n + 1 = omega arith in
    let q : 1 + n + 1 ≡ suc (n + 1) = omega arith in
    rw (p, q, same_eqb) refl

two : (place : ℕ) (x y : List ℕ) (s t : List Part) → x ≡ y → s ≡ t → ◌≡◌ {A = List Part} (record { place = place; bytes = x } ∷ s) (record { place = place; bytes = y } ∷ t)
two place x y s t p q = cc

by_test : (t : Bool) (A : Type 0) → (t ≡ true → A) → (t ≡ false → A) → A
by_test true A f g = f refl
by_test false A f g = g refl

-- the first part, and those behind it
cut_is : (place : ℕ) (xs : List ℕ) → cut place xs ≡ front_part place xs ∷ later_parts place xs
cut_is place [] = refl
cut_is place (b ∷ xs) =
    let tab : (b == 9) ≡ true → cut place (b ∷ xs) ≡ front_part place (b ∷ xs) ∷ later_parts place (b ∷ xs) = λ e. let a : place + 0 + 1 ≡ place + 1 = omega arith in rw (e, a, zero_not) refl in
    let inside : (b == 9) ≡ false → cut place (b ∷ xs) ≡ front_part place (b ∷ xs) ∷ later_parts place (b ∷ xs) = λ e. rw e (ap (with_front place b) (cut_is (place + 1) xs) ∙ two place _ _ _ _ (front_same (prefix_len is_inside xs) b xs) (later_same place (prefix_len is_inside xs) b xs)) in
    by_test (b == 9) _ tab inside

cond_not : {A : Type 0} (t : Bool) (x y : A) → cond (not t) x y ≡ cond t y x
cond_not true x y = refl
cond_not false x y = refl

ends_too : (at n L : ℕ) → at ≤ L → n ≤ L - at → nat_le (at + n + 1) L ≡ not (n == L - at)
ends_too at n L h k = grind (arith, nat_tests)

le_true : (at L : ℕ) → at ≤ L → nat_le at L ≡ true
le_true at L h = grind (arith, nat_tests)

le_false : (at L : ℕ) → L < at → nat_le at L ≡ false
le_false at L h = grind (arith, nat_tests)

behind_part : (line : List ℕ) (at : ℕ) → at ≤ length line → left line (at + prefix_len is_inside (drop at line) + 1) ≡ later_parts (at + 1) (drop at line)
unfolding left
behind_part line at h =
    let n : ℕ = prefix_len is_inside (drop at line) in
    let k : n ≤ length line - at = omega (arith, prefix_len-le-length is_inside (drop at line), length-drop at line) in
    let e : length (drop at line) ≡ length line - at = length-drop at line in
    let p : at + 1 + n + 1 ≡ at + n + 1 + 1 = omega arith in
    let q : at + n + 1 ≡ at + (n + 1) = omega arith in
    let d : drop (n + 1) (drop at line) ≡ drop (at + n + 1) line = drop-drop (n + 1) at line ∙ sym (ap (λ i. drop i line) q) in
    rw (ends_too at n (length line) h k) (cond_not (n == length line - at) _ _ ∙ sym (rw (e, p, d) refl))

pub whole : (line : List ℕ) (at : ℕ) → at ≤ length line → left line at ≡ front_part (at + 1) (drop at line) ∷ later_parts (at + 1) (drop at line)
unfolding left
whole line at h = rw (le_true at (length line) h) (cut_is (at + 1) (drop at line))

-- the parts from an index on: the one there, of which the code knows the end, and those behind it
pub parts_from : (line : List ℕ) (at to : ℕ) → at ≤ length line → to ≡ at + prefix_len (λ b. not (b == 9)) (drop at line) → left line at ≡ record { place = at + 1; bytes = slice_range line at to } ∷ left line (to + 1)
parts_from line at to h e =
    let n : ℕ = prefix_len is_inside (drop at line) in
    let m : to - at ≡ n = omega arith in
    let b : left line (to + 1) ≡ later_parts (at + 1) (drop at line) = rw e (behind_part line at h) in
    rw (whole line at h) (rw (m, b) refl)

pub part_of_line : (line : List ℕ) (at to : ℕ) → at ≤ length line → to ≡ at + prefix_len (λ b. not (b == 9)) (drop at line) → part_seen line at (Ok to) ≡ a_part (length line + 1) (left line at)
part_of_line line at to h e = rw (parts_from line at to h e) refl

-- the parts of a line are those from its first index on
pub all_parts : (line : List ℕ) → parts_of line ≡ left line 0
unfolding left
all_parts line = rw (le_true 0 (length line) (omega arith)) refl

pub first_part : (line : List ℕ) (to : ℕ) → to ≡ 0 + prefix_len (λ b. not (b == 9)) (drop 0 line) → parts_of line ≡ record { place = 1; bytes = slice_range line 0 to } ∷ left line (to + 1)
first_part line to e = all_parts line ∙ parts_from line 0 to (omega arith) e

-- no part is left past the end
pub no_part_left : (line : List ℕ) (at : ℕ) → length line < at → left line at ≡ []
unfolding left
no_part_left line at h = rw (le_false at (length line) h) refl

pub no_part_is_left : (line : List ℕ) (at : ℕ) → length line < at → Ok tt ≡ no_part (length line + 1) (left line at)
no_part_is_left line at h = rw (no_part_left line at h) refl

pub a_part_is_left : (line : List ℕ) (at : ℕ) → at ≤ length line → fault (at + 1) Form ≡ no_part (length line + 1) (left line at)
a_part_is_left line at h = rw (whole line at h) refl
