-- Which lines bytes have.
use Rattle.std.specs.Prelude.{ℕ, ◌≡◌, Bool, true, not, nat_eq, ◌==◌, if◌then◌else◌, List, [], ◌∷◌, ◌++◌}
use Rattle.std.specs.List.{list_all}

-- a line has no line feed
abbrev pub is_one_line : List ℕ → Bool
is_one_line line = list_all (λ b. not (nat_eq b 10)) line

-- a line without the carriage return at its end, where one stands there
abbrev pub without_cr : List ℕ → List ℕ
without_cr [] = []
without_cr (b ∷ []) = if b == 13 then [] else b ∷ []
without_cr (b ∷ c ∷ line) = b ∷ without_cr (c ∷ line)

-- the lines of bytes that go on behind the first bytes of a line
abbrev pub lines_behind : List ℕ → List ℕ → List (List ℕ)
lines_behind front [] = []
lines_behind front (b ∷ bytes) = if b == 10 then without_cr front ∷ lines_behind [] bytes else lines_behind (front ++ b ∷ []) bytes

-- the lines of bytes: what stands before each line feed, without a carriage return directly before it; bytes behind
-- the last line feed are no line
abbrev pub lines : List ℕ → List (List ℕ)
lines bytes = lines_behind [] bytes

-- the bytes behind the last line feed, where bytes go on behind the first ones of a line
abbrev pub last_behind : List ℕ → List ℕ → List ℕ
last_behind front [] = front
last_behind front (b ∷ bytes) = if b == 10 then last_behind [] bytes else last_behind (front ++ b ∷ []) bytes

-- the bytes behind the last line feed
abbrev pub last_bytes : List ℕ → List ℕ
last_bytes bytes = last_behind [] bytes

-- each of these lines has no line feed
abbrev pub AreLines : List (List ℕ) → Type 0
AreLines [] = Unit {0}
AreLines (line ∷ before) = (is_one_line line ≡ true) × AreLines before

-- these lines, the newest first, as a text
abbrev pub joined : List (List ℕ) → List ℕ
joined [] = []
joined (line ∷ before) = joined before ++ (line ++ 10 ∷ [])

-- a text begins with these lines, the newest first, and goes on with the rest
pub record IsCut (text : List ℕ) (lines : List (List ℕ)) (rest : List ℕ) : Type 0 where
  pub whole : text ≡ joined lines ++ rest
  pub each : AreLines lines
