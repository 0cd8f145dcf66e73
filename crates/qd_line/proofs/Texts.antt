-- The text of a line, by its last byte.
use Rattle.std.proofs.Common.{◌≡◌, ℕ, suc, ◌-◌, ◌<◌, true, false, List, [], ◌∷◌, length, take, get_or, refl, ap, arith}
use Rattle.std.specs.Prelude.{◌==◌}
use Rattle.std.proofs.lemmas.Bool.Decides.{nat_tests}
use Rattle.qd_line.specs.Lines.{without_cr}

pub text_with_cr : (line : List ℕ) → 0 < length line → get_or line (length line - 1) 0 ≡ 13 → take (length line - 1) line ≡ without_cr line
text_with_cr [] h e = absurd (omega arith)
text_with_cr (b ∷ []) h e = let t : (b == 13) ≡ true = grind (arith, nat_tests) in rw t refl
text_with_cr (b ∷ c ∷ line) h e =
    let n : suc (suc (length line)) - 1 ≡ suc (length line) = omega arith in
    let m : suc (length line) - 1 ≡ length line = omega arith in
    let i : take (suc (length line) - 1) (c ∷ line) ≡ without_cr (c ∷ line) = text_with_cr (c ∷ line) (omega arith) (rw m (rw n at e)) in
    rw n (ap (λ (t : List ℕ). b ∷ t) (rw m at i))

pub text_whole : (line : List ℕ) → (0 < length line → get_or line (length line - 1) 0 ≡ 13 → ⊥) → take (length line) line ≡ without_cr line
text_whole [] h = refl
text_whole (b ∷ []) h = let t : (b == 13) ≡ false = other b (h (omega arith)) in rw t refl
  where
    other : (b : ℕ) → (b ≡ 13 → ⊥) → (b == 13) ≡ false
    other b n = grind (arith, nat_tests)
text_whole (b ∷ c ∷ line) h =
    let n : suc (suc (length line)) - 1 ≡ suc (length line) = omega arith in
    let m : suc (length line) - 1 ≡ length line = omega arith in
    ap (λ (t : List ℕ). b ∷ t) (text_whole (c ∷ line) (λ p e. h (omega arith) (rw n (rw m at e))))
