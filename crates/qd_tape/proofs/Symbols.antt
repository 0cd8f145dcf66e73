-- The symbols S0 to S9.
use Rattle.std.proofs.Common.{ℕ, ◌≡◌, ◌+◌, ◌<◌, [], ◌∷◌, true, refl, arith}
use Rattle.std.specs.Prelude.{Ok}
use Rattle.std.proofs.lemmas.Bool.Decides.{nat_tests}
use Rattle.qd_scheme.specs.Symbols.{symbol_of, is_symbol_byte}

printed : (b : ℕ) → is_symbol_byte b ≡ true → symbol_of (83 ∷ b ∷ []) ≡ Ok (83 ∷ b ∷ [])
unfolding symbol_of
printed b h = rw h refl

printed_digit : (d : ℕ) → d < 10 → is_symbol_byte (48 + d) ≡ true
printed_digit d h = grind (arith, nat_tests)

pub digit_symbol : (d : ℕ) → d < 10 → symbol_of (83 ∷ (48 + d) ∷ []) ≡ Ok (83 ∷ (48 + d) ∷ [])
digit_symbol d h = printed (48 + d) (printed_digit d h)
