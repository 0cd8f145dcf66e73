-- Which of the texts of a number is its canonical one.
use Rattle.std.specs.Prelude.{◌≡◌, ℕ, List, [], ◌∷◌, Option, Some, None}
use lib.IntN.{ℤ}
use Rattle.qd_decimal.specs.Grammar.{Parts, AreDecimal}
use Rattle.qd_decimal.specs.Texts.{is_negative}

-- the first of several digits is not 0
abbrev pub HasNoLeadingZero : List ℕ → Type 0
HasNoLeadingZero [] = Unit {0}
HasNoLeadingZero (digit ∷ []) = Unit {0}
HasNoLeadingZero (digit ∷ next ∷ digits) = digit ≡ 48 → ⊥

-- there is a digit, and the last one is not 0
abbrev pub HasNoTrailingZero : List ℕ → Type 0
HasNoTrailingZero [] = ⊥
HasNoTrailingZero (digit ∷ []) = digit ≡ 48 → ⊥
HasNoTrailingZero (digit ∷ next ∷ digits) = HasNoTrailingZero (next ∷ digits)

-- a fraction, where there is one, has no trailing zero
abbrev pub IsShortFraction : Option (List ℕ) → Type 0
IsShortFraction None = Unit {0}
IsShortFraction (Some digits) = HasNoTrailingZero digits

-- no leading zero, no trailing zero, no point without a fraction, and a minus exactly where the value is negative
pub record IsCanonical (value : ℤ) (parts : Parts) : Type 0 where
  pub decimal : AreDecimal parts
  pub whole : HasNoLeadingZero parts.whole
  pub fraction : IsShortFraction parts.fraction
  pub sign : parts.negative ≡ is_negative value
