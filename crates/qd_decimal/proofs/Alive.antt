-- Up to the place where a text goes wrong, some number begins with its bytes; and what reading accepts is a number.
use Rattle.std.proofs.Common.{◌≡◌, ℕ, zero, suc, ◌+◌, ◌-◌, ◌<◌, ◌≤◌, Bool, true, false, cond, List, [], ◌∷◌, ◌++◌, length, get_or, take, drop, refl, sym, ◌∙◌, ap, arith, length-append, append_assoc, inl, inr}
use Rattle.std.specs.Prelude.{◌==◌, ◌&&◌, ◌⊎◌, nat_lt, Some, None, Err}
use Rattle.std.specs.List.{prefix_len}
use Rattle.std.proofs.lemmas.Bool.Decides.{nat_tests}
use Rattle.std.proofs.lemmas.List.{drop_more}
use Rattle.std.proofs.Math.Seq.{take-add}
use Rattle.qd_decimal.specs.Grammar.{is_digit, AreDigits, sign, IsDecimal, Begins, IsWrongAt}
use Rattle.qd_decimal.specs.declared.fault.DecFault.TheVariants.{BadByte}
use Rattle.qd_decimal.specs.Reading.{digits_end, has_minus, start_of}
use Rattle.qd_decimal.proofs.Shapes.{decimal_at, not_zero, append_none}
use Rattle.qd_decimal.proofs.Places.{Goes, no_digit, no_point, no_fraction, how, never, dead, start_within}

pub digits_taken : (n : ℕ) (xs : List ℕ) → n ≤ prefix_len is_digit xs → AreDigits (take n xs)
digits_taken zero xs h = tt
digits_taken (suc n) [] h = absurd (omega arith)
digits_taken (suc n) (x ∷ xs) h =
    let go : (t : Bool) → is_digit x ≡ t → suc n ≤ cond t (1 + prefix_len is_digit xs) 0 → AreDigits (x ∷ take n xs) = elim [
      | true ↦ λ e l. (e, digits_taken n xs (omega arith))
      | false ↦ λ e l. absurd (omega arith)
    ] in
    go (is_digit x) refl h

pub digits_then : (xs ys : List ℕ) → AreDigits xs → AreDigits ys → AreDigits (xs ++ ys)
digits_then [] ys h k = k
digits_then (x ∷ xs) ys h k = (h.0, digits_then xs ys h.1 k)

is_45 : (x : ℕ) → (x == 45) ≡ true → x ≡ 45
is_45 x e = grind (arith, nat_tests)

pub sign_text : (text : List ℕ) → take (start_of text) text ≡ sign (has_minus text)
sign_text [] = refl
sign_text (x ∷ text) = rw (not_zero (length text)) (go (x == 45) refl)
  where
    go : (t : Bool) → (x == 45) ≡ t → take (cond t 1 0) (x ∷ text) ≡ sign t
    go true e = ap (λ (y : ℕ). y ∷ []) (is_45 x e)
    go false e = refl

pub start_small : (text : List ℕ) → start_of text ≤ 1
start_small text = go (has_minus text)
  where
    go : (t : Bool) → cond t 1 0 ≤ 1
    go true = omega arith
    go false = omega arith

pub taken : (text : List ℕ) (a b : ℕ) → a ≤ b → take b text ≡ take a text ++ take (b - a) (drop a text)
taken text a b h = let e : a + (b - a) ≡ b = omega arith in ap (λ n. take n text) (sym e) ∙ take-add a (b - a) text

text_one : (a w d z : List ℕ) (negative : Bool) → a ≡ w ++ d → w ≡ sign negative → a ++ z ≡ (sign negative ++ (d ++ z)) ++ []
text_one a w d z negative p q = ap (λ (t : List ℕ). t ++ z) (p ∙ ap (λ (t : List ℕ). t ++ d) q) ∙ append_assoc (sign negative) d z ∙ sym (append_none (sign negative ++ (d ++ z)))

text_two : (a b w d f z : List ℕ) (negative : Bool) → a ≡ b ++ 46 ∷ f → b ≡ w ++ d → w ≡ sign negative → a ++ z ≡ (sign negative ++ d) ++ 46 ∷ (f ++ z)
text_two a b w d f z negative p q r = ap (λ (t : List ℕ). t ++ z) p ∙ append_assoc b (46 ∷ f) z ∙ ap (λ (t : List ℕ). t ++ 46 ∷ (f ++ z)) (q ∙ ap (λ (t : List ℕ). t ++ d) r)

pub prefix_of_end : (text : List ℕ) (from n : ℕ) → from ≤ n → n ≤ digits_end text from → n - from ≤ prefix_len is_digit (drop from text)
unfolding digits_end
prefix_of_end text from n h k = omega arith

-- the first bytes up to the end of the digits, and more digits
one_part : (text z : List ℕ) (n : ℕ) → start_of text ≤ n → n ≤ digits_end text (start_of text) → AreDigits z → 0 < length (take (n - start_of text) (drop (start_of text) text) ++ z) → IsDecimal (take n text ++ z)
one_part text z n h k d some = (
  record { negative = has_minus text; whole = take (n - start_of text) (drop (start_of text) text) ++ z; fraction = None },
  record { some = some; whole = digits_then _ _ (digits_taken _ _ (prefix_of_end text (start_of text) n h k)) d; fraction = tt },
  text_one _ _ _ z (has_minus text) (taken text (start_of text) n h) (sign_text text),
)

pub length_taken : (xs : List ℕ) (n : ℕ) → n ≤ prefix_len is_digit xs → length (take n xs) ≡ n
length_taken xs zero h = refl
length_taken [] (suc n) h = absurd (omega arith)
length_taken (x ∷ xs) (suc n) h =
    let go : (t : Bool) → suc n ≤ cond t (1 + prefix_len is_digit xs) 0 → suc (length (take n xs)) ≡ suc n = elim [
      | true ↦ λ l. ap (λ m. suc m) (length_taken xs n (omega arith))
      | false ↦ λ l. absurd (omega arith)
    ] in
    go (is_digit x) h

behind_e : (text : List ℕ) (e n : ℕ) → n - e ≡ suc (n - (e + 1)) → e < length text → get_or text e 0 ≡ 46 → take (n - e) (drop e text) ≡ 46 ∷ take (n - (e + 1)) (drop (e + 1) text)
behind_e text e n m c point = rw m (ap (λ (t : List ℕ). take (suc (n - (e + 1))) t) (drop_more text e 0 c) ∙ ap (λ (y : ℕ). y ∷ take (n - (e + 1)) (drop (e + 1) text)) point)

-- the bytes behind a point too
two_parts : (text z : List ℕ) (n : ℕ) → start_of text < digits_end text (start_of text) → digits_end text (start_of text) < n → digits_end text (start_of text) < length text → get_or text (digits_end text (start_of text)) 0 ≡ 46 → n ≤ digits_end text (digits_end text (start_of text) + 1) → AreDigits z → IsDecimal (take n text ++ z)
two_parts text z n a b c point g d =
    let m : n - digits_end text (start_of text) ≡ suc (n - (digits_end text (start_of text) + 1)) = omega arith in
    let p : take n text ≡ take (digits_end text (start_of text)) text ++ 46 ∷ take (n - (digits_end text (start_of text) + 1)) (drop (digits_end text (start_of text) + 1) text) =
    taken text (digits_end text (start_of text)) n (omega arith) ∙ ap (λ (t : List ℕ). take (digits_end text (start_of text)) text ++ t) (behind_e text (digits_end text (start_of text)) n m c point) in (
      record { negative = has_minus text; whole = take (digits_end text (start_of text) - start_of text) (drop (start_of text) text); fraction = Some (take (n - (digits_end text (start_of text) + 1)) (drop (digits_end text (start_of text) + 1) text) ++ z) },
      record {
        some = omega (arith, length_taken (drop (start_of text) text) (digits_end text (start_of text) - start_of text) (prefix_of_end text (start_of text) (digits_end text (start_of text)) (omega arith) (omega arith)));
        whole = digits_taken _ _ (prefix_of_end text (start_of text) (digits_end text (start_of text)) (omega arith) (omega arith));
        fraction = digits_then _ _ (digits_taken _ _ (prefix_of_end text (digits_end text (start_of text) + 1) n (omega arith) g)) d;
      },
      text_two _ _ _ _ _ z (has_minus text) p (taken text (start_of text) (digits_end text (start_of text)) (omega arith)) (sign_text text),
    )

zero_digit : AreDigits (48 ∷ [])
zero_digit = (refl, tt)

before_sign : (text : List ℕ) (n : ℕ) → n ≡ 0 → Begins IsDecimal (take n text)
before_sign text n e = rw e (48 ∷ [], (record { negative = false; whole = 48 ∷ []; fraction = None }, record { some = omega arith; whole = zero_digit; fraction = tt }, refl))

lt_or_le : (a b : ℕ) → (a < b) ⊎ (b ≤ a)
lt_or_le a b = go (nat_lt a b) refl
  where
    go : (t : Bool) → nat_lt a b ≡ t → (a < b) ⊎ (b ≤ a)
    go true e = inl (grind (arith, nat_tests))
    go false e = inr (grind (arith, nat_tests))

up_to_digits : (text : List ℕ) (n : ℕ) → n ≤ digits_end text (start_of text) → Begins IsDecimal (take n text)
up_to_digits text n h = elim (lt_or_le n (start_of text)) [
  | inl l ↦ before_sign text n (omega (arith, start_small text))
  | inr l ↦ (48 ∷ [], one_part text (48 ∷ []) n l h zero_digit (omega (arith, length-append (take (n - start_of text) (drop (start_of text) text)) (48 ∷ []))))
]

pub alive : (text : List ℕ) (place : ℕ) → Goes text (start_of text) place → (n : ℕ) → n < place → Begins IsDecimal (take n text)
alive text place (no_digit d p) n h = up_to_digits text n (omega arith)
alive text place (no_point a b c p) n h = up_to_digits text n (omega arith)
alive text place (no_fraction a b c f p) n h = elim (lt_or_le (digits_end text (start_of text)) n) [
  | inl l ↦ (48 ∷ [], two_parts text (48 ∷ []) n a l b c (omega arith) zero_digit)
  | inr l ↦ up_to_digits text n l
]

goes_within : (text : List ℕ) (place : ℕ) → Goes text (start_of text) place → place ≤ length text + 1
goes_within text place (no_digit d p) = omega (arith, start_within text)
goes_within text place (no_point a b c p) = omega arith
goes_within text place (no_fraction a b c f p) = omega arith

-- Where reading finds a wrong byte, the text goes wrong there.
pub wrong : (text : List ℕ) (place : ℕ) → decimal_at text (start_of text) ≡ Err (BadByte place) → IsWrongAt IsDecimal text place
wrong text place w =
    let g : Goes text (start_of text) place = how text (start_of text) place (start_within text) w in
    record { within = goes_within text place g; alive = alive text place g; dead = dead text place w; refused = never text place w }
