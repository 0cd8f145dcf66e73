-- The canonical text of a number is the only one.
use Rattle.std.proofs.Common.{◌≡◌, ℕ, zero, suc, ◌+◌, ◌-◌, ◌*◌, ◌/◌, ◌%◌, ◌^◌, ◌<◌, ◌≤◌, Bool, true, false, cond, List, [], ◌∷◌, ◌++◌, length, drop, refl, sym, ◌∙◌, ap, subst, arith, inl, inr}
use Rattle.std.specs.Prelude.{◌==◌, ◌&&◌, ◌⊎◌, decimal, Option, Some, None, Ok}
use Rattle.std.specs.List.{prefix_len}
use Rattle.std.proofs.lemmas.Bool.Decides.{nat_tests}
use Rattle.std.proofs.lemmas.Fmt.{decimal_by_steps}
use Rattle.std.proofs.lemmas.Nat.{pow-add}
use Rattle.std.proofs.Math.Nat.{one-le-pow, pow-le-pow_right}
use lib.IntN.{ℤ}
use Rattle.qd_decimal.specs.Grammar.{is_digit, AreDigits, Parts, sign, spelled, AreFraction, number_of, fraction_digits, scaled, signed}
use Rattle.qd_decimal.specs.Numbers.{reach}
use Rattle.qd_decimal.specs.Reading.{dec_of}
use Rattle.qd_decimal.specs.Exact.{past}
use Rattle.qd_decimal.specs.Texts.{fraction_text, dec_text, distance, is_negative}
use Rattle.qd_decimal.specs.Canonical.{HasNoLeadingZero, HasNoTrailingZero, IsShortFraction, IsCanonical}
use Rattle.qd_decimal.proofs.Values.{lt_or_le}
use Rattle.qd_decimal.proofs.Again.{IsText, decimal_text, IsFraction, fraction_is, fraction_kept, kept_fraction, canonical_parts, text_is, are_fraction, more, scaled_sum, whole_again, quotient_fits, reach_small, read_parts}

digit_small : (d : ℕ) → is_digit d ≡ true → d - 48 < 10
digit_small d h = grind (arith, nat_tests)

digit_from : (d : ℕ) → is_digit d ≡ true → 48 + (d - 48) ≡ d
digit_from d h = grind (arith, nat_tests)

nine_most : (x p : ℕ) → x ≤ 9 → x * p ≤ 9 * p
nine_most x p h = grind arith

-- the number of digits is below the power of ten that has as many zeros
below_power : (ds : List ℕ) → AreDigits ds → number_of ds < 10 ^ length ds
below_power [] h = omega arith
below_power (d ∷ ds) h =
    let s : d - 48 ≤ 9 = let q = digit_small d h.0 in omega arith in
    let i : number_of ds < 10 ^ length ds = below_power ds h.1 in
    let p : 10 ^ suc (length ds) ≡ 10 * 10 ^ length ds = grind arith in
    let m : (d - 48) * 10 ^ length ds ≤ 9 * 10 ^ length ds = nine_most (d - 48) (10 ^ length ds) s in
    omega arith

mul_up : (x y p : ℕ) → x < y → x * p + p ≤ y * p
mul_up x y p h = grind arith

-- a number by its quotient and its rest
parts_same : (x y p r s : ℕ) → r < p → s < p → x * p + r ≡ y * p + s → (x ≡ y) × (r ≡ s)
parts_same x y p r s h k e = elim (lt_or_le x y) [
  | inl l ↦ let m : x * p + p ≤ y * p = mul_up x y p l in absurd (omega arith)
  | inr l ↦ elim (lt_or_le y x) [
    | inl m ↦ let n : y * p + p ≤ x * p = mul_up y x p m in absurd (omega arith)
    | inr m ↦ let q : x ≡ y = omega arith in (q, let f : x * p ≡ y * p = ap (λ n. n * p) q in omega arith)
  ]
]

-- digits of one length that have one number are the same
same_digits : (a b : List ℕ) → AreDigits a → AreDigits b → length a ≡ length b → number_of a ≡ number_of b → a ≡ b
same_digits [] [] h k l e = refl
same_digits [] (d ∷ b) h k l e = absurd (omega arith)
same_digits (c ∷ a) [] h k l e = absurd (omega arith)
same_digits (c ∷ a) (d ∷ b) h k l e =
    let m : length a ≡ length b = omega arith in
    let p : number_of a < 10 ^ length a = below_power a h.1 in
    let q : number_of b < 10 ^ length a = rw m (below_power b k.1) in
    let f : (c - 48) * 10 ^ length a + number_of a ≡ (d - 48) * 10 ^ length a + number_of b = e ∙ ap (λ n. (d - 48) * 10 ^ n + number_of b) (sym m) in
    let g = parts_same (c - 48) (d - 48) (10 ^ length a) (number_of a) (number_of b) p q f in
    let first : c ≡ d = sym (digit_from c h.0) ∙ ap (λ n. 48 + n) g.0 ∙ digit_from d k.0 in
    ap (λ (t : List ℕ). c ∷ t) (same_digits a b h.1 k.1 m g.1) ∙ ap (λ (n : ℕ). n ∷ b) first

-- fewer digits have a smaller number, where the first of the others is not 0
fewer_digits : (a b : List ℕ) → AreDigits a → AreDigits b → HasNoLeadingZero b → 0 < length a → number_of a ≡ number_of b → length a < length b → ⊥
fewer_digits a [] h k z s e l = omega arith
fewer_digits a (d ∷ []) h k z s e l = omega arith
fewer_digits a (d ∷ c ∷ b) h k z s e l =
    let p : number_of a < 10 ^ length a = below_power a h in
    let m : 10 ^ length a ≤ 10 ^ suc (length b) = pow-le-pow_right (omega arith) (omega arith) in
    let f : 0 < d - 48 = let g = digit_from d k.0 in let q : (d - 48 ≡ 0) → ⊥ = (λ o. z (sym g ∙ ap (λ n. 48 + n) o)) in omega arith in
    let n : 10 ^ suc (length b) ≤ (d - 48) * 10 ^ suc (length b) = grow (d - 48) (10 ^ suc (length b)) f in
    omega arith
  where
    grow : (x p : ℕ) → 0 < x → p ≤ x * p
    grow x p h = grind arith

same_whole : (a b : List ℕ) → AreDigits a → AreDigits b → HasNoLeadingZero a → HasNoLeadingZero b → 0 < length a → 0 < length b → number_of a ≡ number_of b → a ≡ b
same_whole a b h k y z s t e = elim (lt_or_le (length a) (length b)) [
  | inl l ↦ absurd (fewer_digits a b h k z s e l)
  | inr l ↦ elim (lt_or_le (length b) (length a)) [
    | inl m ↦ absurd (fewer_digits b a k h y t (sym e) m)
    | inr m ↦ same_digits a b h k (omega arith) e
  ]
]

abbrev FirstIsNotZero : List ℕ → Type 0
FirstIsNotZero [] = ⊥
FirstIsNotZero (d ∷ ds) = d ≡ 48 → ⊥

lead_more : (ds : List ℕ) (x : ℕ) → FirstIsNotZero ds → HasNoLeadingZero (ds ++ x ∷ []) × FirstIsNotZero (ds ++ x ∷ [])
lead_more [] x h = absurd h
lead_more (d ∷ []) x h = (h, h)
lead_more (d ∷ e ∷ ds) x h = (h, h)

record Leads (n : ℕ) (ds : List ℕ) : Type 0 where
  none : HasNoLeadingZero ds
  first : 0 < n → FirstIsNotZero ds

decimal_leads : (n : ℕ) → n < 2 ^ 64 → Leads n (decimal n)
decimal_leads = decimal_by_steps Leads
    (λ n h. record { none = tt; first = λ p e. omega arith })
    (λ n ds h t. let m = lead_more ds (48 + n % 10) (t.first (omega arith)) in record { none = m.0; first = λ _. m.1 })

trail_more : (d : ℕ) (ds : List ℕ) → HasNoTrailingZero ds → HasNoTrailingZero (d ∷ ds)
trail_more d [] h = absurd h
trail_more d (e ∷ ds) h = h

nothing_left : (places : ℕ) → fraction_text places 0 ≡ []
nothing_left zero = refl
nothing_left (suc places) = refl

fraction_trails : (places rest : ℕ) → rest < 10 ^ places → 0 < rest → HasNoTrailingZero (fraction_text places rest)
fraction_trails zero rest h k = absurd (omega arith)
fraction_trails (suc places) rest h k =
    let p : 0 < 10 ^ places = one-le-pow places 10 (omega arith) in
    let t : (rest == 0) ≡ false = grind (arith, nat_tests) in
    rw t (elim (lt_or_le 0 (rest % 10 ^ places)) [
      | inl l ↦ trail_more (48 + rest / 10 ^ places) (fraction_text places (rest % 10 ^ places)) (fraction_trails places (rest % 10 ^ places) (omega arith) l)
      | inr l ↦
          let z : rest % 10 ^ places ≡ 0 = omega arith in
          let q : 0 < rest / 10 ^ places = positive rest (10 ^ places) k p z in
          let last : HasNoTrailingZero ((48 + rest / 10 ^ places) ∷ []) = λ e. omega arith in
          subst (λ (ds : List ℕ). HasNoTrailingZero ((48 + rest / 10 ^ places) ∷ ds)) (sym (ap (λ n. fraction_text places n) z ∙ nothing_left places)) last
    ])
  where
    positive : (r p : ℕ) → 0 < r → 0 < p → r % p ≡ 0 → 0 < r / p
    positive r p h k z = let w : p * (r / p) + r % p ≡ r = omega arith in let n : r / p ≡ 0 → ⊥ = (λ o. let v : p * (r / p) ≡ p * 0 = ap (λ n. p * n) o in omega arith) in omega arith

-- digits that are none, or whose last one is not 0
abbrev IsTrimmed : List ℕ → Type 0
IsTrimmed [] = Unit {0}
IsTrimmed (d ∷ ds) = HasNoTrailingZero (d ∷ ds)

trimmed_rest : (d : ℕ) (ds : List ℕ) → HasNoTrailingZero (d ∷ ds) → IsTrimmed ds
trimmed_rest d [] h = tt
trimmed_rest d (e ∷ ds) h = h

trimmed_positive : (ds : List ℕ) → AreDigits ds → HasNoTrailingZero ds → 0 < number_of ds
trimmed_positive [] h k = absurd k
trimmed_positive (d ∷ []) h k = let g = digit_from d h.0 in let q : (d - 48 ≡ 0) → ⊥ = (λ o. k (sym g ∙ ap (λ n. 48 + n) o)) in omega arith
trimmed_positive (d ∷ e ∷ ds) h k = let i : 0 < number_of (e ∷ ds) = trimmed_positive (e ∷ ds) h.1 k in omega arith

-- the number of a fraction's digits at a scale
abbrev at_scale : ℕ → List ℕ → ℕ
at_scale places ds = number_of ds * 10 ^ (places - length ds)

power_split : (n l : ℕ) → l ≤ n → 10 ^ l * 10 ^ (n - l) ≡ 10 ^ n
power_split n l h = let s : l + (n - l) ≡ n = omega arith in sym (pow-add 10 l (n - l)) ∙ ap (λ m. 10 ^ m) s

at_scale_small : (places : ℕ) (ds : List ℕ) → AreDigits ds → length ds ≤ places → at_scale places ds < 10 ^ places
at_scale_small places ds h l =
    let p : number_of ds < 10 ^ length ds = below_power ds h in
    let q : 0 < 10 ^ (places - length ds) = one-le-pow (places - length ds) 10 (omega arith) in
    rw (← power_split places (length ds) l) (times_less (number_of ds) (10 ^ length ds) (10 ^ (places - length ds)) p q)
  where
    times_less : (n q k : ℕ) → n < q → 0 < k → n * k < q * k
    times_less n q k h z = let m : n * k + k ≤ q * k = mul_up n q k h in omega arith

at_scale_first : (places d : ℕ) (ds : List ℕ) → length ds ≤ places → at_scale (suc places) (d ∷ ds) ≡ (d - 48) * 10 ^ places + at_scale places ds
at_scale_first places d ds l =
    let k : suc places - suc (length ds) ≡ places - length ds = omega arith in
    rw k (more (d - 48) (10 ^ length ds) (10 ^ (places - length ds)) (10 ^ places) (at_scale places ds) (number_of ds) (power_split places (length ds) l) refl ∙ omega arith)

at_scale_positive : (places : ℕ) (ds : List ℕ) → AreDigits ds → HasNoTrailingZero ds → 0 < at_scale places ds
at_scale_positive places ds h k =
    let n : 0 < number_of ds = trimmed_positive ds h k in
    let q : 0 < 10 ^ (places - length ds) = one-le-pow (places - length ds) 10 (omega arith) in
    grind arith

same_fraction : (places : ℕ) (a b : List ℕ) → AreDigits a → AreDigits b → IsTrimmed a → IsTrimmed b → length a ≤ places → length b ≤ places → at_scale places a ≡ at_scale places b → a ≡ b
same_fraction places [] [] h k y z l m e = refl
same_fraction places [] (d ∷ b) h k y z l m e = let q : 0 < at_scale places (d ∷ b) = at_scale_positive places (d ∷ b) k z in absurd (omega arith)
same_fraction places (c ∷ a) [] h k y z l m e = let q : 0 < at_scale places (c ∷ a) = at_scale_positive places (c ∷ a) h y in absurd (omega arith)
same_fraction zero (c ∷ a) (d ∷ b) h k y z l m e = absurd (omega arith)
same_fraction (suc places) (c ∷ a) (d ∷ b) h k y z l m e =
    let f : (c - 48) * 10 ^ places + at_scale places a ≡ (d - 48) * 10 ^ places + at_scale places b = sym (at_scale_first places c a (omega arith)) ∙ e ∙ at_scale_first places d b (omega arith) in
    let g = parts_same (c - 48) (d - 48) (10 ^ places) (at_scale places a) (at_scale places b) (at_scale_small places a h.1 (omega arith)) (at_scale_small places b k.1 (omega arith)) f in
    let first : c ≡ d = sym (digit_from c h.0) ∙ ap (λ n. 48 + n) g.0 ∙ digit_from d k.0 in
    ap (λ (t : List ℕ). c ∷ t) (same_fraction places a b h.1 k.1 (trimmed_rest c a y) (trimmed_rest d b z) (omega arith) (omega arith) g.1) ∙ ap (λ (n : ℕ). n ∷ b) first

-- A fraction with no trailing zero that is fine at a scale has no digit past it.
no_zeros : (ds : List ℕ) → HasNoTrailingZero ds → prefix_len (λ b. b == 48) ds ≡ length ds → ⊥
no_zeros [] h e = h
no_zeros (d ∷ []) h e = go (d == 48) refl e
  where
    go : (t : Bool) → (d == 48) ≡ t → ◌≡◌ {A = ℕ} (cond t 1 0) 1 → ⊥
    go true q e = let i : d ≡ 48 = grind (arith, nat_tests) in h i
    go false q e = omega arith
no_zeros (d ∷ c ∷ ds) h e =
    let go : (t : Bool) → cond t (1 + prefix_len (λ b. b == 48) (c ∷ ds)) 0 ≡ suc (length (c ∷ ds)) → ⊥ = elim [
      | true ↦ λ q. no_zeros (c ∷ ds) h (omega arith)
      | false ↦ λ q. omega arith
    ] in
    go (d == 48) e

fine_short : (scale : ℕ) (ds : List ℕ) → IsTrimmed ds → prefix_len (λ b. b == 48) (drop scale ds) ≡ length (drop scale ds) → length ds ≤ scale
fine_short scale [] h e = omega arith
fine_short zero (d ∷ ds) h e = absurd (no_zeros (d ∷ ds) h e)
fine_short (suc scale) (d ∷ ds) h e = let i : length ds ≤ scale = fine_short scale ds (trimmed_rest d ds h) e in omega arith

-- a fraction's digits, where it is short
trimmed_fraction : (f : Option (List ℕ)) → IsShortFraction f → IsTrimmed (fraction_digits f)
trimmed_fraction None h = tt
trimmed_fraction (Some []) h = absurd h
trimmed_fraction (Some (d ∷ ds)) h = h

fraction_are_digits : (f : Option (List ℕ)) → AreFraction f → AreDigits (fraction_digits f)
fraction_are_digits None h = tt
fraction_are_digits (Some ds) h = h

-- the fraction of a canonical text, by its number
the_fraction : (scale : ℕ) (f : Option (List ℕ)) → AreFraction f → IsShortFraction f → length (fraction_digits f) ≤ scale → f ≡ kept_fraction scale (at_scale scale (fraction_digits f))
the_fraction scale None h k l =
    let z : at_scale scale [] ≡ 0 = omega arith in
    let t : (at_scale scale [] == 0) ≡ true = grind (arith, nat_tests) in
    rw t refl
the_fraction scale (Some ds) h k l =
    let p : 0 < at_scale scale ds = at_scale_positive scale ds h k in
    let t : (at_scale scale ds == 0) ≡ false = grind (arith, nat_tests) in
    let small : at_scale scale ds < 10 ^ scale = at_scale_small scale ds h l in
    let q : IsFraction scale (at_scale scale ds) (fraction_text scale (at_scale scale ds)) = fraction_is scale (at_scale scale ds) small in
    let trails : HasNoTrailingZero (fraction_text scale (at_scale scale ds)) = fraction_trails scale (at_scale scale ds) small p in
    rw t (ap (λ (x : List ℕ). Some x) (same_fraction scale ds (fraction_text scale (at_scale scale ds)) h q.digits (trimmed_fraction (Some ds) k) (trimmed_fraction (Some (fraction_text scale (at_scale scale ds))) trails) l q.short (sym q.number)))

-- the number of a text's parts: what stands before the point, scaled, and the fraction
scaled_is : (scale : ℕ) (parts : Parts) → length (fraction_digits parts.fraction) ≤ scale → scaled scale parts ≡ 10 ^ scale * number_of parts.whole + at_scale scale (fraction_digits parts.fraction)
scaled_is scale parts h =
    scaled_sum scale parts.whole (fraction_digits parts.fraction) h
    ∙ more (number_of parts.whole) (10 ^ length (fraction_digits parts.fraction)) (10 ^ (scale - length (fraction_digits parts.fraction))) (10 ^ scale) (at_scale scale (fraction_digits parts.fraction)) (number_of (fraction_digits parts.fraction)) (power_split scale (length (fraction_digits parts.fraction)) h) refl

distance_signed : (b : Bool) (n : ℕ) → distance (signed b n) ≡ n
distance_signed true zero = refl
distance_signed true (suc n) = refl
distance_signed false n = refl

abbrev parts_of : Bool → List ℕ → Option (List ℕ) → Parts
parts_of negative whole fraction = record { negative = negative; whole = whole; fraction = fraction }

same_parts : (a b : Parts) → a.negative ≡ b.negative → a.whole ≡ b.whole → a.fraction ≡ b.fraction → spelled a ≡ spelled b
same_parts a b p q r =
    ap (λ (x : Bool). spelled (parts_of x a.whole a.fraction)) p
    ∙ ap (λ (x : List ℕ). spelled (parts_of b.negative x a.fraction)) q
    ∙ ap (λ (x : Option (List ℕ)). spelled (parts_of b.negative b.whole x)) r

-- A canonical text of a number is the one that is written.
pub one_canonical : (scale : ℕ) (value : ℤ) (parts : Parts) → distance value ≤ reach (is_negative value) → IsCanonical value parts → dec_of scale (spelled parts) ≡ Ok value → spelled parts ≡ dec_text scale value
one_canonical scale value parts h c e =
    let r = read_parts scale parts c.decimal value e in
    let short : length (fraction_digits parts.fraction) ≤ scale = fine_short scale (fraction_digits parts.fraction) (trimmed_fraction parts.fraction c.fraction) r.0 in
    let d : distance value ≡ 10 ^ scale * number_of parts.whole + at_scale scale (fraction_digits parts.fraction) = ap distance r.1 ∙ distance_signed parts.negative (scaled scale parts) ∙ scaled_is scale parts short in
    let p : 0 < 10 ^ scale = one-le-pow scale 10 (omega arith) in
    let a : AreDigits (fraction_digits parts.fraction) = fraction_are_digits parts.fraction c.decimal.fraction in
    let w : 10 ^ scale * (distance value / 10 ^ scale) + distance value % 10 ^ scale ≡ distance value = whole_again (distance value) (10 ^ scale) p in
    let g = parts_same (distance value / 10 ^ scale) (number_of parts.whole) (10 ^ scale) (distance value % 10 ^ scale) (at_scale scale (fraction_digits parts.fraction)) (omega arith) (at_scale_small scale (fraction_digits parts.fraction) a short) (omega (arith, w, d)) in
    let small : distance value / 10 ^ scale < 2 ^ 64 = quotient_fits (distance value) (10 ^ scale) (omega (arith, reach_small (is_negative value), h)) in
    let t : IsText (distance value / 10 ^ scale) (decimal (distance value / 10 ^ scale)) = decimal_text (distance value / 10 ^ scale) small in
    let leads : Leads (distance value / 10 ^ scale) (decimal (distance value / 10 ^ scale)) = decimal_leads (distance value / 10 ^ scale) small in
    let whole : parts.whole ≡ decimal (distance value / 10 ^ scale) = same_whole parts.whole (decimal (distance value / 10 ^ scale)) c.decimal.whole t.digits c.whole leads.none c.decimal.some t.some (sym g.0 ∙ sym t.number) in
    let fraction : parts.fraction ≡ kept_fraction scale (distance value % 10 ^ scale) = the_fraction scale parts.fraction c.decimal.fraction c.fraction short ∙ ap (λ n. kept_fraction scale n) (sym g.1) in
    same_parts parts (canonical_parts scale value) c.sign whole fraction ∙ sym (text_is scale value)

kept_short : (scale rest : ℕ) → rest < 10 ^ scale → IsShortFraction (kept_fraction scale rest)
kept_short scale rest h =
    let go : (b : Bool) → (rest == 0) ≡ b → IsShortFraction (cond b None (Some (fraction_text scale rest))) = elim [
      | true ↦ λ e. tt
      | false ↦ λ e. let n : 0 < rest = grind (arith, nat_tests) in fraction_trails scale rest h n
    ] in
    go (rest == 0) refl

-- The text that is written is canonical.
pub canonical : (scale : ℕ) (value : ℤ) → distance value ≤ reach (is_negative value) → (parts : Parts) × (dec_text scale value ≡ spelled parts) × IsCanonical value parts
canonical scale value h =
    let p : 0 < 10 ^ scale = one-le-pow scale 10 (omega arith) in
    let small : distance value / 10 ^ scale < 2 ^ 64 = quotient_fits (distance value) (10 ^ scale) (omega (arith, reach_small (is_negative value), h)) in
    let t : IsText (distance value / 10 ^ scale) (decimal (distance value / 10 ^ scale)) = decimal_text (distance value / 10 ^ scale) small in
    let f : IsFraction scale (distance value % 10 ^ scale) (fraction_digits (kept_fraction scale (distance value % 10 ^ scale))) = fraction_kept scale (distance value % 10 ^ scale) (omega arith) in (
      canonical_parts scale value,
      text_is scale value,
      record {
        decimal = record { some = t.some; whole = t.digits; fraction = are_fraction (kept_fraction scale (distance value % 10 ^ scale)) f.digits };
        whole = (decimal_leads (distance value / 10 ^ scale) small).none;
        fraction = kept_short scale (distance value % 10 ^ scale) (omega arith);
        sign = refl;
      },
    )
