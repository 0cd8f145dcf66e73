-- Where a text that is no number goes wrong.
use Rattle.std.proofs.Common.{◌≡◌, ℕ, zero, suc, ◌+◌, ◌-◌, ◌<◌, ◌≤◌, Bool, true, false, cond, nat_eq, List, [], ◌∷◌, ◌++◌, length, get_or, take, drop, refl, sym, ◌∙◌, ap, subst, arith, length-drop, inl, inr}
use Rattle.std.specs.Prelude.{◌==◌, ◌&&◌, ◌⊎◌, nat_lt, Result, Ok, Err}
use Rattle.std.specs.List.{prefix_len}
use Rattle.std.proofs.lemmas.Bool.Decides.{nat_tests}
use Rattle.std.proofs.lemmas.List.Sums.{prefix_len-le-length}
use Rattle.qd_decimal.specs.Grammar.{is_digit, sign, IsDecimal, Begins}
use Rattle.qd_decimal.specs.declared.fault.DecFault.{DecFault}
use Rattle.qd_decimal.specs.declared.fault.DecFault.TheVariants.{BadByte}
use Rattle.qd_decimal.specs.Reading.{digits_end, start_of}
use Rattle.qd_decimal.proofs.Shapes.{decimal_at, accepted, without_digit, whole_number, other_byte, with_fraction, bad_fraction, not_zero}

pub lt_or_eq : (a b : ℕ) → a ≤ b → (a < b) ⊎ (a ≡ b)
lt_or_eq a b h = go (nat_lt a b) refl
  where
    go : (t : Bool) → nat_lt a b ≡ t → (a < b) ⊎ (a ≡ b)
    go true e = inl (grind (arith, nat_tests))
    go false e = inr (grind (arith, nat_tests))

pub eq_or_not : (a b : ℕ) → (a ≡ b) ⊎ (a ≡ b → ⊥)
eq_or_not a b = go (nat_eq a b) refl
  where
    go : (t : Bool) → nat_eq a b ≡ t → (a ≡ b) ⊎ (a ≡ b → ⊥)
    go true e = inl (grind (arith, nat_tests))
    go false e = inr (grind (arith, nat_tests))

-- What stands in the first bytes of a text stands in each text that begins with them.
prefix_local : (p : ℕ → Bool) (n : ℕ) (xs ys : List ℕ) → prefix_len p xs < n → n ≤ length xs → prefix_len p (take n xs ++ ys) ≡ prefix_len p xs
prefix_local p zero xs ys h k = absurd (omega arith)
prefix_local p (suc n) [] ys h k = absurd (omega arith)
prefix_local p (suc n) (x ∷ xs) ys h k =
    let go : (t : Bool) → cond t (1 + prefix_len p xs) 0 < suc n → cond t (1 + prefix_len p (take n xs ++ ys)) 0 ≡ cond t (1 + prefix_len p xs) 0 = elim [
      | true ↦ λ l. ap (λ m. 1 + m) (prefix_local p n xs ys (omega arith) (omega arith))
      | false ↦ λ l. refl
    ] in
    go (p x) h

drop_local : (from q : ℕ) (text rest : List ℕ) → from ≤ q → q ≤ length text → drop from (take q text ++ rest) ≡ take (q - from) (drop from text) ++ rest
drop_local zero q text rest h k = let e : q - 0 ≡ q = omega arith in rw e refl
drop_local (suc from) zero text rest h k = absurd (omega arith)
drop_local (suc from) (suc q) [] rest h k = absurd (omega arith)
drop_local (suc from) (suc q) (x ∷ text) rest h k = let e : suc q - suc from ≡ q - from = omega arith in rw e (drop_local from q text rest (omega arith) (omega arith))

pub digits_local : (text rest : List ℕ) (from q : ℕ) → from ≤ q → q ≤ length text → digits_end text from < q → digits_end (take q text ++ rest) from ≡ digits_end text from
unfolding digits_end
digits_local text rest from q h k l =
    rw (drop_local from q text rest h k) (ap (λ n. from + n) (prefix_local is_digit (q - from) (drop from text) rest (omega arith) (omega (arith, length-drop from text))))

get_local : (q k : ℕ) (text rest : List ℕ) → k < q → q ≤ length text → get_or (take q text ++ rest) k 0 ≡ get_or text k 0
get_local zero k text rest h l = absurd (omega arith)
get_local (suc q) k [] rest h l = absurd (omega arith)
get_local (suc q) zero (x ∷ text) rest h l = refl
get_local (suc q) (suc k) (x ∷ text) rest h l = get_local q k text rest (omega arith) (omega arith)

pub start_local : (q : ℕ) (text rest : List ℕ) → 0 < q → q ≤ length text → start_of (take q text ++ rest) ≡ start_of text
start_local zero text rest h l = absurd (omega arith)
start_local (suc q) [] rest h l = absurd (omega arith)
start_local (suc q) (x ∷ text) rest h l = rw (not_zero (length (take q text ++ rest)), not_zero (length text)) refl

pub length_local : (q : ℕ) (text rest : List ℕ) → q ≤ length text → length (take q text ++ rest) ≡ q + length rest
length_local zero text rest h = omega arith
length_local (suc q) [] rest h = absurd (omega arith)
length_local (suc q) (x ∷ text) rest h = omega (arith, length_local q text rest (omega arith))

pub end_from : (text : List ℕ) (from : ℕ) → from ≤ digits_end text from
unfolding digits_end
end_from text from = omega arith

pub end_within : (text : List ℕ) (from : ℕ) → from ≤ length text → digits_end text from ≤ length text
unfolding digits_end
end_within text from h = omega (arith, prefix_len-le-length is_digit (drop from text), length-drop from text)

-- the ways in which a text goes wrong behind its sign
pub data Goes (text : List ℕ) (from place : ℕ) : Type 0 where
  no_digit : digits_end text from ≡ from → place ≡ from + 1 → Goes text from place
  no_point : from < digits_end text from → digits_end text from < length text → (get_or text (digits_end text from) 0 ≡ 46 → ⊥) → place ≡ digits_end text from + 1 → Goes text from place
  no_fraction : from < digits_end text from → digits_end text from < length text → get_or text (digits_end text from) 0 ≡ 46 → digits_end text (digits_end text from + 1) < length text → place ≡ digits_end text (digits_end text from + 1) + 1 → Goes text from place

same_place : (r : Result ℕ DecFault) (p q : ℕ) → r ≡ Err (BadByte p) → r ≡ Err (BadByte q) → q ≡ p
same_place r p q h k = cc

not_both : (r : Result ℕ DecFault) (n q : ℕ) → r ≡ Ok n → r ≡ Err (BadByte q) → ⊥
not_both r n q h k = cc

pub how : (text : List ℕ) (from place : ℕ) → from ≤ length text → decimal_at text from ≡ Err (BadByte place) → Goes text from place
how text from place h w =
    let e : ℕ = digits_end text from in
    elim (lt_or_eq from (digits_end text from) (end_from text from)) [
      | inl l ↦ elim (lt_or_eq (digits_end text from) (length text) (end_within text from h)) [
        | inl m ↦ elim (eq_or_not (get_or text (digits_end text from) 0) 46) [
          | inl b ↦ elim (lt_or_eq (digits_end text (digits_end text from + 1)) (length text) (end_within text (digits_end text from + 1) (omega arith))) [
            | inl g ↦ no_fraction l m b g (same_place _ _ _ (bad_fraction text from _ _ refl l m b refl g) w)
            | inr g ↦ absurd (not_both _ _ _ (with_fraction text from _ refl l m b g) w)
          ]
          | inr b ↦ no_point l m b (same_place _ _ _ (other_byte text from _ refl l m b) w)
        ]
        | inr m ↦ absurd (not_both _ _ _ (whole_number text from _ refl l m) w)
      ]
      | inr l ↦ no_digit (sym l) (same_place _ _ _ (without_digit text from (sym l)) w)
    ]

-- No text that begins with the first bytes up to the wrong one is accepted either.
pub goes_on : (text rest : List ℕ) (from place : ℕ) → place ≤ length text → Goes text from place → decimal_at (take place text ++ rest) from ≡ Err (BadByte place)
goes_on text rest from place h (no_digit d p) =
    let l : digits_end (take place text ++ rest) from ≡ digits_end text from = digits_local text rest from place (omega arith) h (omega arith) in
    without_digit (take place text ++ rest) from (l ∙ d) ∙ ap (λ n. Err (BadByte n)) (sym p)
goes_on text rest from place h (no_point a b c p) =
    let l : digits_end (take place text ++ rest) from ≡ digits_end text from = digits_local text rest from place (omega arith) h (omega arith) in
    let g : get_or (take place text ++ rest) (digits_end text from) 0 ≡ get_or text (digits_end text from) 0 = get_local place (digits_end text from) text rest (omega arith) h in
    other_byte (take place text ++ rest) from (digits_end text from) l a (omega (arith, length_local place text rest h)) (λ x. c (sym g ∙ x)) ∙ ap (λ n. Err (BadByte n)) (sym p)
goes_on text rest from place h (no_fraction a b c f p) =
    let o : digits_end text from + 1 ≤ digits_end text (digits_end text from + 1) = end_from text (digits_end text from + 1) in
    let l : digits_end (take place text ++ rest) from ≡ digits_end text from = digits_local text rest from place (omega arith) h (omega arith) in
    let g : get_or (take place text ++ rest) (digits_end text from) 0 ≡ get_or text (digits_end text from) 0 = get_local place (digits_end text from) text rest (omega arith) h in
    let m : digits_end (take place text ++ rest) (digits_end text from + 1) ≡ digits_end text (digits_end text from + 1) = digits_local text rest (digits_end text from + 1) place (omega arith) h (omega arith) in
    bad_fraction (take place text ++ rest) from (digits_end text from) (digits_end text (digits_end text from + 1)) l a (omega (arith, length_local place text rest h)) (g ∙ c) m (omega (arith, length_local place text rest h)) ∙ ap (λ n. Err (BadByte n)) (sym p)

goes_far : (text : List ℕ) (from place : ℕ) → Goes text from place → 0 < place
goes_far text from place (no_digit d p) = omega arith
goes_far text from place (no_point a b c p) = omega arith
goes_far text from place (no_fraction a b c f p) = omega arith

pub start_within : (text : List ℕ) → start_of text ≤ length text
start_within [] = omega arith
start_within (x ∷ text) = rw (not_zero (length text)) (go (x == 45))
  where
    go : (t : Bool) → cond t 1 0 ≤ suc (length text)
    go true = omega arith
    go false = omega arith

pub never : (text : List ℕ) (place : ℕ) → decimal_at text (start_of text) ≡ Err (BadByte place) → IsDecimal text → ⊥
never text place w (parts, a, e) = not_both _ _ _ (subst (λ (t : List ℕ). decimal_at t (start_of t) ≡ Ok (length (sign parts.negative ++ parts.whole))) (sym e) (accepted parts a)) w

pub dead : (text : List ℕ) (place : ℕ) → decimal_at text (start_of text) ≡ Err (BadByte place) → place ≤ length text → Begins IsDecimal (take place text) → ⊥
dead text place w h (rest, d) =
    let g : Goes text (start_of text) place = how text (start_of text) place (start_within text) w in
    let s : start_of (take place text ++ rest) ≡ start_of text = start_local place text rest (goes_far _ _ _ g) h in
    never (take place text ++ rest) place (rw s (goes_on text rest (start_of text) place h g)) d
