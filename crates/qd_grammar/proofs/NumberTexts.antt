-- The canonical texts of numbers: they have no TAB, and are read as what they were written for.
use Rattle.std.proofs.Common.{◌≡◌, ℕ, zero, suc, ◌+◌, ◌/◌, ◌%◌, ◌^◌, ◌<◌, ◌≤◌, Bool, true, false, cond, List, [], ◌∷◌, refl, subst, arith}
use Rattle.std.specs.Prelude.{◌==◌, decimal, nat_le, Option, Some, None, Result, Ok, Err}
use Rattle.std.proofs.lemmas.Bool.Decides.{nat_tests}
use Rattle.std.proofs.lemmas.Fmt.{decimal_by_steps}
use lib.IntN.{ℤ}
use Rattle.qd_decimal.specs.declared.fault.DecFault.{DecFault}
use Rattle.qd_decimal.specs.declared.fault.DecFault.TheVariants.{TooLarge}
use Rattle.qd_decimal.specs.Grammar.{sign, signed}
use Rattle.qd_decimal.specs.Numbers.{reach, signed_fit, count_fit}
use Rattle.qd_decimal.specs.Reading.{◌>>=◌, dec_of, int_of, count_of, whole_at, start_of, has_minus, point_at, non_empty, rest_at, fraction_start, kept_end, magnitude_at}
use Rattle.qd_decimal.specs.Texts.{fraction_text, point_text, magnitude_text, dec_text, distance, is_negative}
use Rattle.qd_decimal.proofs.Again.{again}
use Rattle.qd_decimal.proofs.WholesAgain.{int_again, count_again}
use Rattle.qd_scheme.specs.declared.defs.FieldKind.{FieldKind}
use Rattle.qd_scheme.specs.declared.defs.FieldKind.TheVariants.{Int, Dec}
use Rattle.qd_grammar.specs.Fields.{number_of_kind}
use Rattle.qd_grammar.specs.Canonical.{cell_text}
use Rattle.qd_grammar.proofs.Tabs.{HasNoTab, no_tab-append}

digit_not : (n : ℕ) → (48 + n == 9) ≡ false
digit_not n = grind (arith, nat_tests)

pub no_tab-decimal : (n : ℕ) → n < 2 ^ 64 → HasNoTab (decimal n)
no_tab-decimal = decimal_by_steps (λ n ds. HasNoTab ds) (λ n h. (digit_not n, tt)) (λ n ds h t. no_tab-append ds ((48 + n % 10) ∷ []) t (digit_not (n % 10), tt))

no_tab-cond : (t : Bool) (text : List ℕ) → HasNoTab text → HasNoTab (cond t [] text)
no_tab-cond true text h = tt
no_tab-cond false text h = h

no_tab-fraction : (places rest : ℕ) → HasNoTab (fraction_text places rest)
no_tab-fraction zero rest = tt
no_tab-fraction (suc places) rest = no_tab-cond (rest == 0) _ (digit_not (rest / 10 ^ places), no_tab-fraction places (rest % 10 ^ places))

no_tab-point : (places rest : ℕ) → HasNoTab (point_text places rest)
no_tab-point places rest = no_tab-cond (rest == 0) _ (refl, no_tab-fraction places rest)

no_tab-sign : (negative : Bool) → HasNoTab (sign negative)
no_tab-sign true = (refl, tt)
no_tab-sign false = tt

less : (n q : ℕ) → n < 2 ^ 64 → n / q < 2 ^ 64
less n q h = let l : n / q ≤ n = grind arith in omega arith

reach_small : (b : Bool) → reach b < 2 ^ 64
reach_small true = omega arith
reach_small false = omega arith

-- a number of 64 bits
abbrev pub IsInReach : ℤ → Type 0
IsInReach value = distance value ≤ reach (is_negative value)

no_tab-dec : (scale : ℕ) (value : ℤ) → IsInReach value → HasNoTab (dec_text scale value)
unfolding dec_text magnitude_text
no_tab-dec scale value h =
    let l : distance value < 2 ^ 64 = omega (arith, reach_small (is_negative value)) in
    no_tab-append (sign (is_negative value)) _ (no_tab-sign (is_negative value))
    (no_tab-append (decimal (distance value / 10 ^ scale)) _ (no_tab-decimal (distance value / 10 ^ scale) (less (distance value) (10 ^ scale) l)) (no_tab-point scale (distance value % 10 ^ scale)))

-- what a reading in steps gave, its last step gave
last : {A B : Type 0} (first : Result A DecFault) (then : A → Result B DecFault) (value : B) → (first >>= then) ≡ Ok value → (x : A) × (then x ≡ Ok value)
last (Ok x) then value e = (x, e)
last (Err f) then value e = cc

signed_reach : (negative : Bool) (n : ℕ) → n ≤ reach negative → IsInReach (signed negative n)
signed_reach true zero h = omega arith
signed_reach true (suc n) h = h
signed_reach false n h = h

tested : {A : Type 0} (t : Bool) (x : A) (f : DecFault) (value : A) → cond t (Ok x) (Err f) ≡ Ok value → (t ≡ true) × (x ≡ value)
tested true x f value e = (refl, cc)
tested false x f value e = cc

fit_reach : (negative : Bool) (number : Option ℕ) (value : ℤ) → signed_fit negative number ≡ Ok value → IsInReach value
fit_reach negative None value e = cc
fit_reach negative (Some n) value e =
    let t = tested (nat_le n (reach negative)) (signed negative n) TooLarge value e in
    let u = t.0 in
    let h : n ≤ reach negative = grind (arith, nat_tests) in
    subst IsInReach t.1 (signed_reach negative n h)

count_within : (most : ℕ) (number : Option ℕ) (n : ℕ) → count_fit most number ≡ Ok n → n ≤ most
count_within most None n e = cc
count_within most (Some m) n e =
    let t = tested (nat_le m most) m TooLarge n e in
    let u = t.0 in
    let v = t.1 in
    let h : m ≤ most = grind (arith, nat_tests) in
    omega arith

pub dec_reach : (scale : ℕ) (text : List ℕ) (value : ℤ) → dec_of scale text ≡ Ok value → IsInReach value
unfolding dec_of
dec_reach scale text value e =
    let fraction : ℕ → ℕ = fraction_start text in
    let kept : ℕ → ℕ = λ whole. kept_end scale text (fraction whole) in
    let fit : ℕ → Unit {0} → Result ℤ DecFault = λ whole u. signed_fit (has_minus text) (magnitude_at scale text (start_of text) whole (fraction whole) (kept whole)) in
    let behind : ℕ → Result ℤ DecFault = λ whole. rest_at text (fraction whole) (kept whole) >>= fit whole in
    let a = last (non_empty text) (λ u. point_at text (start_of text) >>= behind) value e in
    let b = last (point_at text (start_of text)) behind value a.1 in
    let c = last (rest_at text (fraction b.0) (kept b.0)) (fit b.0) value b.1 in
    fit_reach (has_minus text) (magnitude_at scale text (start_of text) b.0 (fraction b.0) (kept b.0)) value c.1

pub int_reach : (text : List ℕ) (value : ℤ) → int_of text ≡ Ok value → IsInReach value
unfolding int_of
int_reach text value e =
    let a = last (non_empty text) (λ u. whole_at text (start_of text) >>= signed_fit (has_minus text)) value e in
    let b = last (whole_at text (start_of text)) (signed_fit (has_minus text)) value a.1 in
    fit_reach (has_minus text) b.0 value b.1

pub count_reach : (most : ℕ) (text : List ℕ) (n : ℕ) → count_of most text ≡ Ok n → n ≤ most
unfolding count_of
count_reach most text n e =
    let a = last (non_empty text) (λ u. whole_at text 0 >>= count_fit most) n e in
    let b = last (whole_at text 0) (count_fit most) n a.1 in
    count_within most b.0 n b.1

-- a cell that was read is in reach
pub cell_reach : (kind : FieldKind) (text : List ℕ) (value : ℤ) → number_of_kind kind text ≡ Ok value → IsInReach value
cell_reach Int text value e = int_reach text value e
cell_reach (Dec scale) text value e = dec_reach scale text value e

-- a cell in reach is read from its canonical text
pub cell_again : (kind : FieldKind) (value : ℤ) → IsInReach value → number_of_kind kind (cell_text kind value) ≡ Ok value
cell_again Int value h = int_again value h
cell_again (Dec scale) value h = again scale value h

pub no_tab-cell : (kind : FieldKind) (value : ℤ) → IsInReach value → HasNoTab (cell_text kind value)
no_tab-cell Int value h = no_tab-dec 0 value h
no_tab-cell (Dec scale) value h = no_tab-dec scale value h

-- so is a count up to a limit
pub number_again : (most n : ℕ) → most < 2 ^ 64 → n ≤ most → count_of most (decimal n) ≡ Ok n
number_again most n k h = count_again most n k h

pub no_tab-number : (most n : ℕ) → most < 2 ^ 64 → n ≤ most → HasNoTab (decimal n)
no_tab-number most n k h = no_tab-decimal n (omega arith)
