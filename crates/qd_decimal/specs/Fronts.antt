-- What the first part of a text, up to a TAB or to the end, is read as.
use Rattle.std.specs.Prelude.{ℕ, ◌==◌, ◌||◌, not, List, length, take, slice_index, Bool, Result, Ok}
use Rattle.std.specs.List.{prefix_len}
use lib.IntN.{ℤ}
use Rattle.qd_decimal.specs.Reading.{◌>>=◌}
use Rattle.qd_decimal.specs.declared.fault.DecFault.{DecFault}
use Rattle.qd_decimal.specs.declared.fronts.Front.{Front}

-- the text ends here, or a TAB stands here
abbrev pub ends_part : List ℕ → ℕ → Bool
ends_part text at = (at == length text) || (slice_index text at == 9)

-- how many bytes stand before the first TAB
abbrev pub part_len : List ℕ → ℕ
part_len text = prefix_len (λ b. not (b == 9)) text

-- a value that was read, with so many bytes
abbrev pub with_len : ℕ → Result ℤ DecFault → Result Front DecFault
with_len len read = read >>= λ value. Ok (record { value = value; len = len })

-- what the first part is read as, and its length
abbrev pub front_read : (List ℕ → Result ℤ DecFault) → List ℕ → Result Front DecFault
front_read read text = with_len (part_len text) (read (take (part_len text) text))
