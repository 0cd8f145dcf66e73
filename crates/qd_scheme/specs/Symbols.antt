-- Which texts are symbols, and where a text that is none goes wrong.
use Rattle.std.specs.Prelude.{ℕ, ◌≡◌, ◌+◌, ◌==◌, ◌&&◌, ◌||◌, min, nat_lt, nat_le, if◌then◌else◌, List, length, slice_index, Bool, Result, Ok, Err}
use Rattle.std.specs.List.{prefix_len}

-- the printed ASCII bytes but the space
abbrev pub is_symbol_byte : ℕ → Bool
is_symbol_byte b = nat_le 33 b && nat_le b 126

-- `=` and `#`, which no symbol begins with
abbrev pub is_reserved : ℕ → Bool
is_reserved b = (b == 61) || (b == 35)

-- the symbol that a text is, or the place of its first wrong byte, from 1
unfoldable pub symbol_of : List ℕ → Result (List ℕ) ℕ
symbol_of text =
    let good = prefix_len is_symbol_byte text in
    if length text == 0 then Err 1 else
    if is_reserved (slice_index text 0) then Err 1 else
    if (length text == 1) && (slice_index text 0 == 34) then Err 1 else
    if nat_lt good (min (length text) 64) then Err (good + 1) else
    if nat_lt 64 (length text) then Err 65 else Ok text

-- the text is a symbol
abbrev pub IsSymbol : List ℕ → Type 0
IsSymbol text = symbol_of text ≡ Ok text
