-- The parts of a description.
use Rattle.std.proofs.Common.{◌≡◌, ℕ, zero, suc, ◌+◌, ◌<◌, ◌≤◌, Bool, true, false, List, [], ◌∷◌, ◌++◌, length, map, get_or, take, drop, nat_eq, refl, sym, ◌∙◌, ap, arith, length-drop, ◌-◌}
use Rattle.std.specs.Prelude.{◌==◌, ◌&&◌, not, decimal, slice_range, slice_get, Some}
use Rattle.std.specs.Cmp.Lexicographic.{pointwise}
use Rattle.std.proofs.lemmas.Bool.Decides.{nat_tests}
use Rattle.std.proofs.lemmas.List.{drop_more}
use Rattle.std.proofs.lemmas.Fmt.{decimal_digit}
use Rattle.qd_scheme.specs.declared.defs.FieldDef.{FieldDef}
use Rattle.qd_scheme.specs.declared.defs.RecordDef.{RecordDef}
use Rattle.std.specs.Prelude.{Ok}
use Rattle.qd_grammar.specs.declared.fault.Why.TheVariants.{SchemeMismatch}
use Rattle.qd_grammar.specs.Parts.{fault}
use Rattle.qd_text.specs.Cursor.{left}
use Rattle.qd_text.proofs.Cuts.{whole, no_part_left}
use Rattle.qd_grammar.specs.Control.{field_text, same_parts, description, description_at}

and_false : (b : Bool) → (b && false) ≡ false
and_false true = refl
and_false false = refl

not_two : (n : ℕ) → (suc (suc (suc n)) == 2) ≡ false
not_two n = grind (arith, nat_tests)

not_same : (n m : ℕ) → (n ≡ m → ⊥) → nat_eq n m ≡ false
not_same n m h = grind (arith, nat_tests)

-- a text of two bytes
pub two_bytes : (text : List ℕ) (x y : ℕ) → pointwise nat_eq text (x ∷ y ∷ []) ≡ ((length text == 2) && (get_or text 0 0 == x)) && (get_or text 1 0 == y)
two_bytes [] x y = refl
two_bytes (a ∷ []) x y = go (nat_eq a x)
  where
    go : (t : Bool) → (t && false) ≡ false
    go true = refl
    go false = refl
two_bytes (a ∷ b ∷ []) x y = go (nat_eq a x) (nat_eq b y)
  where
    go : (t u : Bool) → (t && (u && true)) ≡ (t && u)
    go true true = refl
    go true false = refl
    go false u = refl
two_bytes (a ∷ b ∷ c ∷ text) x y = rw (not_two (length text)) (go (nat_eq a x) (nat_eq b y))
  where
    go : (t u : Bool) → (t && (u && false)) ≡ false
    go true true = refl
    go true false = refl
    go false u = refl

-- the text of a scale
pub scale_text : (text : List ℕ) (scale : ℕ) → scale ≤ 9 → pointwise nat_eq text (100 ∷ decimal scale) ≡ ((length text == 2) && (get_or text 0 0 == 100)) && (get_or text 1 0 == 48 + scale)
scale_text text scale h = rw (decimal_digit scale (omega arith)) (two_bytes text 100 (48 + scale))

abbrev named : List ℕ → List ℕ → List ℕ
named name kind = (name ++ 58 ∷ []) ++ kind

pub too_short : (text name kind : List ℕ) → length text ≤ length name → pointwise nat_eq text (named name kind) ≡ false
too_short [] [] kind h = refl
too_short [] (n ∷ name) kind h = refl
too_short (t ∷ text) [] kind h = absurd (omega arith)
too_short (t ∷ text) (n ∷ name) kind h = rw (too_short text name kind (omega arith)) (and_false (nat_eq t n))

pub other_name : (text name kind : List ℕ) → length name < length text → pointwise nat_eq (take (length name) text) name ≡ false → pointwise nat_eq text (named name kind) ≡ false
other_name [] name kind h e = absurd (omega arith)
other_name (t ∷ text) [] kind h e = absurd (cc)
other_name (t ∷ text) (n ∷ name) kind h e =
    let same : (b : Bool) → (b && pointwise nat_eq (take (length name) text) name) ≡ false → (b && pointwise nat_eq text (named name kind)) ≡ false = elim [ true ↦ λ f. other_name text name kind (omega arith) f | false ↦ λ f. refl ] in
    same (nat_eq t n) e

pub other_byte : (text name kind : List ℕ) → length name < length text → (get_or text (length name) 0 ≡ 58 → ⊥) → pointwise nat_eq text (named name kind) ≡ false
other_byte [] name kind h e = absurd (omega arith)
other_byte (t ∷ text) [] kind h e = rw (not_same t 58 e) refl
other_byte (t ∷ text) (n ∷ name) kind h e = rw (other_byte text name kind (omega arith) e) (and_false (nat_eq t n))

front_same : (text name kind : List ℕ) → length name < length text → pointwise nat_eq (take (length name) text) name ≡ true → get_or text (length name) 0 ≡ 58 → pointwise nat_eq text (named name kind) ≡ pointwise nat_eq (drop (suc (length name)) text) kind
front_same [] name kind h e f = absurd (omega arith)
front_same (t ∷ text) [] kind h e f = rw f refl
front_same (t ∷ text) (n ∷ name) kind h e f =
    let same : (b : Bool) → (b && pointwise nat_eq (take (length name) text) name) ≡ true → (b && pointwise nat_eq text (named name kind)) ≡ pointwise nat_eq (drop (suc (length name)) text) kind = elim [ true ↦ λ g. front_same text name kind (omega arith) g f | false ↦ λ g. absurd (cc) ] in
    same (nat_eq t n) e

pub same_front : (text name kind : List ℕ) → length name < length text → pointwise nat_eq (take (length name) text) name ≡ true → get_or text (length name) 0 ≡ 58 → pointwise nat_eq text (named name kind) ≡ pointwise nat_eq (drop (length name + 1) text) kind
same_front text name kind h e f =
    let one : length name + 1 ≡ suc (length name) = omega arith in
    front_same text name kind h e f ∙ ap (λ n. pointwise nat_eq (drop n text) kind) (sym one)

take_all : (xs : List ℕ) (n : ℕ) → length xs ≤ n → take n xs ≡ xs
take_all [] zero h = refl
take_all [] (suc n) h = refl
take_all (x ∷ xs) zero h = absurd (omega arith)
take_all (x ∷ xs) (suc n) h = ap (λ (t : List ℕ). x ∷ t) (take_all xs n (omega arith))

was_true : (b : Bool) → false ≡ not b → b ≡ true
was_true true e = refl
was_true false e = cc

-- what is told where the name and the colon are there
pub told_by_kind : (text name kind shown : List ℕ) (colon : ℕ) (told : Bool) → colon ≡ length name → shown ≡ name → colon < length text → false ≡ not (pointwise nat_eq (take colon text) shown) → get_or text colon 0 ≡ 58 → told ≡ pointwise nat_eq (take (length text - (colon + 1)) (drop (colon + 1) text)) kind → told ≡ pointwise nat_eq text (named name kind)
told_by_kind text name kind shown colon told e s h n b k =
    let t : take (length text - (colon + 1)) (drop (colon + 1) text) ≡ drop (colon + 1) text = take_all (drop (colon + 1) text) (length text - (colon + 1)) (omega (arith, length-drop (colon + 1) text)) in
    let f : pointwise nat_eq (take (length name) text) name ≡ true = rw (← e) (rw (← s) (was_true (pointwise nat_eq (take colon text) shown) n)) in
    k ∙ ap (λ (xs : List ℕ). pointwise nat_eq xs kind) (t ∙ ap (λ i. drop (i + 1) text) e) ∙ sym (same_front text name kind (omega arith) f (rw (← e) b))

-- past the last field
pub no_fields : (fields : List FieldDef) (i : ℕ) → length fields ≤ i → drop i fields ≡ []
no_fields [] zero h = refl
no_fields [] (suc i) h = refl
no_fields (f ∷ fields) zero h = absurd (omega arith)
no_fields (f ∷ fields) (suc i) h = no_fields fields i (omega arith)

pub behind_last : (line : List ℕ) (at : ℕ) (fields : List FieldDef) (i end : ℕ) → at ≤ length line → length fields ≤ i → same_parts (map field_text (drop i fields)) end (left line at) ≡ fault (at + 1) SchemeMismatch
behind_last line at fields i end h k = rw (whole line at h) (rw (no_fields fields i k) refl)

pub at_end : (line : List ℕ) (at : ℕ) (fields : List FieldDef) (i end : ℕ) → length line < at → length fields ≤ i → same_parts (map field_text (drop i fields)) end (left line at) ≡ Ok tt
at_end line at fields i end h k = rw (no_part_left line at h) (rw (no_fields fields i k) refl)

pub texts_left : (fields : List FieldDef) (i : ℕ) (field : FieldDef) → i < length fields → field ≡ get_or fields i field → map field_text (drop i fields) ≡ field_text field ∷ map field_text (drop (i + 1) fields)
texts_left fields i field h e = ap (λ (xs : List FieldDef). map field_text xs) (drop_more fields i field h) ∙ ap (λ (f : FieldDef). field_text f ∷ map field_text (drop (i + 1) fields)) (sym e)

take_none : (n : ℕ) → take {A = ℕ} n [] ≡ []
take_none zero = refl
take_none (suc n) = refl

drop_front : (n : ℕ) (xs : List ℕ) → drop 1 (take n xs) ≡ take (n - 1) (drop 1 xs)
drop_front zero xs = refl
drop_front (suc n) [] = sym (take_none (suc n - 1))
drop_front (suc n) (x ∷ xs) = let e : suc n - 1 ≡ n = omega arith in rw e refl

-- a record's name, behind its `=`
pub name_bytes : (line : List ℕ) (end : ℕ) → drop 1 (slice_range line 0 end) ≡ slice_range line 1 end
name_bytes line end = let e : end - 0 ≡ end = omega arith in rw e (drop_front end line)

-- the description of a record of the scheme
pub described : (defs : List RecordDef) (rec : ℕ) (def : RecordDef) → slice_get defs rec ≡ Some def → description_at (slice_get defs rec) ≡ description def
described defs rec def e = ap description_at e
