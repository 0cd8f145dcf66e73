-- What reading a number gives, by the grammar.
use Rattle.std.specs.Prelude.{ℕ, Bool, ◌++◌, ◌≡◌, ◌+◌, ◌-◌, ◌<◌, ◌≤◌, ◌==◌, List, length, drop, Result, Ok, Err}
use Rattle.std.specs.List.{prefix_len}
use lib.IntN.{ℤ}
use Rattle.qd_decimal.specs.Grammar.{Parts, sign, spelled, AreDecimal, IsDecimal, IsWhole, IsCount, IsWrongAt, number_of, fraction_digits, scaled, signed}
use Rattle.qd_decimal.specs.Numbers.{reach}
use Rattle.qd_decimal.specs.declared.fault.DecFault.{DecFault}
use Rattle.qd_decimal.specs.declared.fault.DecFault.TheVariants.{Empty, BadByte, TooFine, TooLarge}

-- the digits past the scale
abbrev pub past : ℕ → Parts → List ℕ
past scale parts = drop scale (fraction_digits parts.fraction)

-- how many zeros they begin with
abbrev pub zeros_past : ℕ → Parts → ℕ
zeros_past scale parts = prefix_len (λ b. b == 48) (past scale parts)

-- no digit but 0 stands past the scale
abbrev pub IsFine : ℕ → Parts → Type 0
IsFine scale parts = zeros_past scale parts ≡ length (past scale parts)

-- the first other digit stands at a place
pub record IsTooFineAt (scale : ℕ) (text : List ℕ) (parts : Parts) (place : ℕ) : Type 0 where
  pub some : zeros_past scale parts < length (past scale parts)
  pub first : place ≡ (length text - length (past scale parts)) + zeros_past scale parts + 1

-- a text has these parts
pub record HasParts (text : List ℕ) (parts : Parts) : Type 0 where
  pub decimal : AreDecimal parts
  pub spells : text ≡ spelled parts

-- reading a decimal number gives its value, or the first fault
abbrev pub ReadsDecimal : ℕ → List ℕ → Result ℤ DecFault → Type 0
ReadsDecimal scale text (Ok value) = (parts : Parts) × HasParts text parts × IsFine scale parts × (scaled scale parts ≤ reach parts.negative) × (value ≡ signed parts.negative (scaled scale parts))
ReadsDecimal scale text (Err Empty) = length text ≡ 0
ReadsDecimal scale text (Err (BadByte place)) = (0 < length text) × IsWrongAt IsDecimal text place
ReadsDecimal scale text (Err (TooFine place)) = (parts : Parts) × HasParts text parts × IsTooFineAt scale text parts place
ReadsDecimal scale text (Err TooLarge) = (parts : Parts) × HasParts text parts × IsFine scale parts × (reach parts.negative < scaled scale parts)

-- a text is a whole number of these digits
pub record HasDigits (text : List ℕ) (negative : Bool) (digits : List ℕ) : Type 0 where
  pub count : IsCount digits
  pub spells : text ≡ sign negative ++ digits

-- reading a whole number gives its value, or the first fault
abbrev pub ReadsWhole : List ℕ → Result ℤ DecFault → Type 0
ReadsWhole text (Ok value) = (negative : Bool) × (digits : List ℕ) × HasDigits text negative digits × (number_of digits ≤ reach negative) × (value ≡ signed negative (number_of digits))
ReadsWhole text (Err Empty) = length text ≡ 0
ReadsWhole text (Err (BadByte place)) = (0 < length text) × IsWrongAt IsWhole text place
ReadsWhole text (Err (TooFine place)) = ⊥
ReadsWhole text (Err TooLarge) = (negative : Bool) × (digits : List ℕ) × HasDigits text negative digits × (reach negative < number_of digits)

-- reading a count gives its value, or the first fault
abbrev pub ReadsCount : ℕ → List ℕ → Result ℕ DecFault → Type 0
ReadsCount most text (Ok value) = IsCount text × (number_of text ≤ most) × (value ≡ number_of text)
ReadsCount most text (Err Empty) = length text ≡ 0
ReadsCount most text (Err (BadByte place)) = (0 < length text) × IsWrongAt IsCount text place
ReadsCount most text (Err (TooFine place)) = ⊥
ReadsCount most text (Err TooLarge) = IsCount text × (most < number_of text)
