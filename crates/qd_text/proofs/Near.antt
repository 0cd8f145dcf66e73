-- The faults of a text of at most 4096 bytes are near.
use Rattle.std.proofs.Common.{◌≡◌, ℕ, ◌+◌, ◌≤◌, Bool, true, false, cond, List, [], ◌∷◌, ◌++◌, length, drop, min, refl, arith, length-drop, length-append}
use Rattle.std.specs.Prelude.{IfErr, ◌==◌, ◌&&◌, nat_lt, slice_index, Option, Some, None, Result, Ok, Err}
use lib.IntN.{ℤ}
use Rattle.qd_decimal.specs.Exact.{past, ReadsDecimal, ReadsWhole, ReadsCount}
use Rattle.qd_decimal.specs.Grammar.{sign, behind_point, fraction_digits}
use Rattle.std.specs.List.{prefix_len}
use Rattle.std.proofs.lemmas.Bool.Decides.{nat_tests}
use Rattle.qd_scheme.specs.Symbols.{symbol_of, is_symbol_byte, is_reserved}
use Rattle.qd_decimal.specs.declared.fault.DecFault.{DecFault}
use Rattle.qd_decimal.specs.declared.fault.DecFault.TheVariants.{Empty, BadByte, TooFine, TooLarge}
use Rattle.qd_text.specs.Near.{IsNear}

past_short : (scale : ℕ) (front : List ℕ) (fraction : Option (List ℕ)) → length (drop scale (fraction_digits fraction)) ≤ length (front ++ behind_point fraction)
past_short scale front None = omega (arith, length-drop {A = ℕ} scale [])
past_short scale front (Some digits) = omega (arith, length-drop scale digits, length-append front (46 ∷ digits))

pub near_decimal : (scale : ℕ) (text : List ℕ) (read : Result ℤ DecFault) → length text ≤ 4096 → ReadsDecimal scale text read → IfErr read IsNear
near_decimal scale text (Ok value) l h = tt
near_decimal scale text (Err Empty) l h = tt
near_decimal scale text (Err (BadByte place)) l h = let w = h.1.within in omega arith
near_decimal scale text (Err (TooFine place)) l h =
    let short : length (past scale h.0) ≤ length text = rw h.1.spells (past_short scale (sign h.0.negative ++ h.0.whole) h.0.fraction) in
    let s = h.2.some in
    let f = h.2.first in
    omega arith
near_decimal scale text (Err TooLarge) l h = tt

pub near_whole : (text : List ℕ) (read : Result ℤ DecFault) → length text ≤ 4096 → ReadsWhole text read → IfErr read IsNear
near_whole text (Ok value) l h = tt
near_whole text (Err Empty) l h = tt
near_whole text (Err (BadByte place)) l h = let w = h.1.within in omega arith
near_whole text (Err (TooFine place)) l h = absurd h
near_whole text (Err TooLarge) l h = tt

pub near_count : (most : ℕ) (text : List ℕ) (read : Result ℕ DecFault) → length text ≤ 4096 → ReadsCount most text read → IfErr read IsNear
near_count most text (Ok value) l h = tt
near_count most text (Err Empty) l h = tt
near_count most text (Err (BadByte place)) l h = let w = h.1.within in omega arith
near_count most text (Err (TooFine place)) l h = absurd h
near_count most text (Err TooLarge) l h = tt

-- a test's fault, or what is told where it passes
told_near : {A : Type 0} (test : Bool) (f p : ℕ) (rest : Result A ℕ) → (test ≡ true → f ≤ 65) → (rest ≡ Err p → p ≤ 65) → cond test (Err f) rest ≡ Err p → p ≤ 65
told_near true f p rest h k e = let n : f ≡ p = cc in let m : f ≤ 65 = h refl in omega arith
told_near false f p rest h k e = k e

good_near : (good n : ℕ) → nat_lt good (min n 64) ≡ true → good + 1 ≤ 65
good_near good n h = grind (arith, nat_tests)

pub near_symbol : (text : List ℕ) (p : ℕ) → symbol_of text ≡ Err p → p ≤ 65
unfolding symbol_of
near_symbol text p e =
    let good : ℕ = prefix_len is_symbol_byte text in
    let last : Result (List ℕ) ℕ = cond (nat_lt 64 (length text)) (Err 65) (Ok text) in
    let fourth : Result (List ℕ) ℕ = cond (nat_lt good (min (length text) 64)) (Err (good + 1)) last in
    let third : Result (List ℕ) ℕ = cond ((length text == 1) && (slice_index text 0 == 34)) (Err 1) fourth in
    let second : Result (List ℕ) ℕ = cond (is_reserved (slice_index text 0)) (Err 1) third in
    told_near (length text == 0) 1 p second (λ t. omega arith)
    (told_near (is_reserved (slice_index text 0)) 1 p third (λ t. omega arith)
    (told_near ((length text == 1) && (slice_index text 0 == 34)) 1 p fourth (λ t. omega arith)
    (told_near (nat_lt good (min (length text) 64)) (good + 1) p last (good_near good (length text))
    (told_near (nat_lt 64 (length text)) 65 p (Ok text) (λ t. omega arith) (λ q. absurd (cc))))))
    e
