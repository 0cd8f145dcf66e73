-- Which texts are numbers, what number a text is, and where a text that is none goes wrong.
use Rattle.std.specs.Prelude.{◌≡◌, ℕ, ◌+◌, ◌-◌, ◌*◌, ◌^◌, ◌<◌, ◌≤◌, Bool, true, false, ◌&&◌, nat_le, nat_lt, List, [], ◌∷◌, ◌++◌, length, take, Option, Some, None}
use Rattle.std.specs.List.{AllByRecursion}
use lib.IntN.{ℤ, pos, neg_ℤ}

-- the bytes 0 to 9
abbrev pub is_digit : ℕ → Bool
is_digit b = nat_le 48 b && nat_lt b 58

abbrev pub AreDigits : List ℕ → Type 0
AreDigits = AllByRecursion (λ b. is_digit b ≡ true)

-- the parts of a number's text: a minus or none, digits, and behind a point, where there is one, digits
pub record Parts : Type 0 where
  pub negative : Bool
  pub whole : List ℕ
  pub fraction : Option (List ℕ)

abbrev pub sign : Bool → List ℕ
sign true = 45 ∷ []
sign false = []

abbrev pub behind_point : Option (List ℕ) → List ℕ
behind_point None = []
behind_point (Some digits) = 46 ∷ digits

abbrev pub spelled : Parts → List ℕ
spelled parts = (sign parts.negative ++ parts.whole) ++ behind_point parts.fraction

abbrev pub AreFraction : Option (List ℕ) → Type 0
AreFraction None = Unit {0}
AreFraction (Some digits) = AreDigits digits

-- A decimal number has at least one digit before its point.
pub record AreDecimal (parts : Parts) : Type 0 where
  pub some : 0 < length parts.whole
  pub whole : AreDigits parts.whole
  pub fraction : AreFraction parts.fraction

-- a text of the grammar of decimal numbers
abbrev pub IsDecimal : List ℕ → Type 0
IsDecimal text = (parts : Parts) × AreDecimal parts × (text ≡ spelled parts)

-- A count is at least one digit.
abbrev pub IsCount : List ℕ → Type 0
IsCount text = (0 < length text) × AreDigits text

-- A whole number is a count with a minus before it or none.
abbrev pub IsWhole : List ℕ → Type 0
IsWhole text = (negative : Bool) × (digits : List ℕ) × IsCount digits × (text ≡ sign negative ++ digits)

-- some text of a grammar begins so
abbrev pub Begins : (List ℕ → Type 0) → List ℕ → Type 0
Begins grammar front = (rest : List ℕ) × grammar (front ++ rest)

-- A text that is not of a grammar goes wrong at the least number of bytes with which no text of the grammar
-- begins, and behind its end where there is no such number.
pub record IsWrongAt (grammar : List ℕ → Type 0) (text : List ℕ) (place : ℕ) : Type 0 where
  pub within : place ≤ length text + 1
  pub alive : (n : ℕ) → n < place → Begins grammar (take n text)
  pub dead : place ≤ length text → Begins grammar (take place text) → ⊥
  pub refused : grammar text → ⊥

-- the number that digits stand for: each digit counts ten times what the next one does
abbrev pub number_of : List ℕ → ℕ
number_of [] = 0
number_of (digit ∷ digits) = (digit - 48) * 10 ^ length digits + number_of digits

abbrev pub fraction_digits : Option (List ℕ) → List ℕ
fraction_digits None = []
fraction_digits (Some digits) = digits

-- the number times 10 ^ scale, without the digits past the scale
abbrev pub scaled : ℕ → Parts → ℕ
scaled scale parts =
    let fraction = take scale (fraction_digits parts.fraction) in
    number_of (parts.whole ++ fraction) * 10 ^ (scale - length fraction)

abbrev pub signed : Bool → ℕ → ℤ
signed true n = neg_ℤ (pos n)
signed false n = pos n
