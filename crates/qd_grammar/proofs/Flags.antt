-- Flags without the bits 0x20 and 0x80 pass the one test of both.
use Rattle.std.proofs.Common.{◌≡◌, ℕ, zero, suc, ◌<◌, ◌≤◌, Bool, true, false, nat_eq, refl, sym, ◌∙◌, arith}
use Rattle.std.specs.Prelude.{◌==◌, ◌&&◌, not, bit_and}
use Rattle.std.proofs.lemmas.Bool.Decides.{nat_tests}
use Rattle.qd_grammar.specs.Items.{AreFlags}

-- a test that all numbers below one pass
abbrev all_below : (ℕ → Bool) → ℕ → Bool
all_below test zero = true
all_below test (suc n) = test n && all_below test n

pub both : (a b : Bool) → (a && b) ≡ true → (a ≡ true) × (b ≡ true)
both true b e = (refl, e)
both false b e = cc

at_or_below : (test : ℕ → Bool) (n k : ℕ) → test n ≡ true → (k < n → test k ≡ true) → k < suc n → (b : Bool) → nat_eq k n ≡ b → test k ≡ true
at_or_below test n k top less h true e = let same : k ≡ n = grind (arith, nat_tests) in rw same top
at_or_below test n k top less h false e = less (grind (arith, nat_tests))

below : (test : ℕ → Bool) (n : ℕ) → all_below test n ≡ true → (k : ℕ) → k < n → test k ≡ true
below test zero e k h = let no : ⊥ = omega arith in absurd no
below test (suc n) e k h = let split = both (test n) (all_below test n) e in at_or_below test n k split.0 (below test n split.1 k) h (nat_eq k n) refl

-- two tests answer the same
abbrev agree : Bool → Bool → Bool
agree true b = b
agree false b = not b

agreed : (a b : Bool) → agree a b ≡ true → a ≡ b
agreed true true e = refl
agreed true false e = cc
agreed false true e = cc
agreed false false e = refl

abbrev without : ℕ → Bool
without n = (bit_and n 32 == 0) && (bit_and n 128 == 0)

all_agree : all_below (λ n. agree (bit_and n 160 == 0) (without n)) 256 ≡ true
all_agree = refl

one_test : (n : ℕ) → n ≤ 255 → (bit_and n 160 == 0) ≡ without n
one_test n h = agreed (bit_and n 160 == 0) (without n) (below (λ n. agree (bit_and n 160 == 0) (without n)) 256 all_agree n (omega arith))

zero_tested : (n : ℕ) → n ≡ 0 → (n == 0) ≡ true
zero_tested n e = rw e refl

tested_zero : (n : ℕ) → (n == 0) ≡ true → n ≡ 0
tested_zero n e = grind (arith, nat_tests)

pub flags_pass : (n : ℕ) → AreFlags n → (bit_and n 160 == 0) ≡ true
flags_pass n h = rw (one_test n h.few) (rw (zero_tested (bit_and n 32) h.no_0x20) (zero_tested (bit_and n 128) h.no_0x80))

pub passing_flags : (n : ℕ) → n ≤ 255 → (bit_and n 160 == 0) ≡ true → AreFlags n
passing_flags n h e =
    let split = both (bit_and n 32 == 0) (bit_and n 128 == 0) (sym (one_test n h) ∙ e) in
    record { few = h; no_0x20 = tested_zero (bit_and n 32) split.0; no_0x80 = tested_zero (bit_and n 128) split.1 }
