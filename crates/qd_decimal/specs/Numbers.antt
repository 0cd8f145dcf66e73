-- What a text of digits is as a number of 64 bits.
use Rattle.std.specs.Prelude.{ℕ, ◌+◌, ◌-◌, ◌*◌, ◌^◌, nat_lt, if◌then◌else◌, List, [], ◌∷◌, Option, Some, None, Result, Ok, Err, Bool, true, false, nat_le}
use lib.IntN.{ℤ}
use Rattle.qd_decimal.specs.Grammar.{signed}
use Rattle.qd_decimal.specs.declared.fault.DecFault.{DecFault}
use Rattle.qd_decimal.specs.declared.fault.DecFault.TheVariants.{TooLarge}

-- a number, where 64 bits have it
abbrev pub fitting : ℕ → Option ℕ
fitting n = if nat_lt n (2 ^ 64) then Some n else None

-- a number with one more digit
abbrev pub with_digit : Option ℕ → ℕ → Option ℕ
with_digit None digit = None
with_digit (Some n) digit = fitting (n * 10 + (digit - 48))

-- a number with more digits
abbrev pub with_digits : Option ℕ → List ℕ → Option ℕ
with_digits number [] = number
with_digits number (digit ∷ digits) = with_digits (with_digit number digit) digits

abbrev pub times : Option ℕ → ℕ → Option ℕ
times None power = None
times (Some n) power = fitting (n * power)

-- the largest distance from 0 on either side
abbrev pub reach : Bool → ℕ
reach true = 2 ^ 63
reach false = 2 ^ 63 - 1

-- a signed number of 64 bits
abbrev pub signed_fit : Bool → Option ℕ → Result ℤ DecFault
signed_fit negative None = Err TooLarge
signed_fit negative (Some n) = if nat_le n (reach negative) then Ok (signed negative n) else Err TooLarge

-- a count up to a limit
abbrev pub count_fit : ℕ → Option ℕ → Result ℕ DecFault
count_fit most None = Err TooLarge
count_fit most (Some n) = if nat_le n most then Ok n else Err TooLarge
