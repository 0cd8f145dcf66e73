-- What reading a number gives: its value, or the first fault.
use Rattle.std.specs.Prelude.{ℕ, ◌+◌, ◌-◌, ◌*◌, ◌^◌, ◌==◌, ◌&&◌, ◌||◌, not, min, nat_lt, if◌then◌else◌, List, ◌∷◌, length, drop, slice_index, slice_range, Option, Some, Result, Ok, Err, Bool, true, false}
use Rattle.std.specs.List.{prefix_len}
use lib.IntN.{ℤ}
use Rattle.qd_decimal.specs.Grammar.{is_digit}
use Rattle.qd_decimal.specs.Numbers.{with_digits, times, signed_fit, count_fit}
use Rattle.qd_decimal.specs.declared.fault.DecFault.{DecFault}
use Rattle.qd_decimal.specs.declared.fault.DecFault.TheVariants.{Empty, BadByte, TooFine}

infixl 10 ◌>>=◌
abbrev pub ◌>>=◌ : {A B : Type 0} → Result A DecFault → (A → Result B DecFault) → Result B DecFault
(Ok x) >>= f = f x
(Err e) >>= f = Err e

-- where the digits from a place on end
unfoldable pub digits_end : List ℕ → ℕ → ℕ
digits_end text from = from + prefix_len is_digit (drop from text)

-- where the zeros from a place on end
unfoldable pub zeros_end : List ℕ → ℕ → ℕ
zeros_end text from = from + prefix_len (λ b. b == 48) (drop from text)

abbrev pub has_minus : List ℕ → Bool
has_minus text = not (length text == 0) && (slice_index text 0 == 45)

-- where the digits begin
abbrev pub start_of : List ℕ → ℕ
start_of text = if has_minus text then 1 else 0

-- a test that a text of digits has to pass at a place
abbrev pub expects : Bool → ℕ → Result (Unit {0}) DecFault
expects true place = Ok tt
expects false place = Err (BadByte place)

-- the number of the digits from a place to the end, of which there is at least one, where 64 bits have it
unfoldable pub whole_at : List ℕ → ℕ → Result (Option ℕ) DecFault
whole_at text from =
    expects (nat_lt from (digits_end text from)) (from + 1) >>= λ _.
    expects (digits_end text from == length text) (digits_end text from + 1) >>= λ _.
    Ok (with_digits (Some 0) (slice_range text from (length text)))

-- the digits behind the point begin here: at the end where there is no point
abbrev pub fraction_start : List ℕ → ℕ → ℕ
fraction_start text whole = min (whole + 1) (length text)

-- the end of the digits before the point: from a place on at least one digit, then the end or a point
unfoldable pub point_at : List ℕ → ℕ → Result ℕ DecFault
point_at text from =
    expects (nat_lt from (digits_end text from)) (from + 1) >>= λ _.
    expects (digits_end text from == length text || slice_index text (digits_end text from) == 46) (digits_end text from + 1) >>= λ _.
    Ok (digits_end text from)

abbrev pub non_empty : List ℕ → Result (Unit {0}) DecFault
non_empty text = if length text == 0 then Err Empty else Ok tt

-- where those end that the scale has
abbrev pub kept_end : ℕ → List ℕ → ℕ → ℕ
kept_end scale text fraction = min (fraction + scale) (length text)

abbrev pub fine_enough : List ℕ → ℕ → Result (Unit {0}) DecFault
fine_enough text kept = if zeros_end text kept == length text then Ok tt else Err (TooFine (zeros_end text kept + 1))

-- digits alone from a place to the end, and past another zeros alone
unfoldable pub rest_at : List ℕ → ℕ → ℕ → Result (Unit {0}) DecFault
rest_at text fraction kept =
    expects (digits_end text fraction == length text) (digits_end text fraction + 1) >>= λ _.
    fine_enough text kept

-- the number times 10 ^ scale, where 64 bits have it
abbrev pub magnitude_at : ℕ → List ℕ → ℕ → ℕ → ℕ → ℕ → Option ℕ
magnitude_at scale text start whole fraction kept =
    times (with_digits (with_digits (Some 0) (slice_range text start whole)) (slice_range text fraction kept)) (10 ^ (scale - (kept - fraction)))

-- the value of a decimal number at a scale, or the first fault
unfoldable pub dec_of : ℕ → List ℕ → Result ℤ DecFault
dec_of scale text = do
  _ ← non_empty text
  whole ← point_at text (start_of text)
  let fraction = fraction_start text whole
  let kept = kept_end scale text fraction
  _ ← rest_at text fraction kept
  signed_fit (has_minus text) (magnitude_at scale text (start_of text) whole fraction kept)

-- the value of a whole number, or the first fault
unfoldable pub int_of : List ℕ → Result ℤ DecFault
int_of text = do
  _ ← non_empty text
  number ← whole_at text (start_of text)
  signed_fit (has_minus text) number

-- the value of a count up to a limit, or the first fault
unfoldable pub count_of : ℕ → List ℕ → Result ℕ DecFault
count_of most text = do
  _ ← non_empty text
  number ← whole_at text 0
  count_fit most number
