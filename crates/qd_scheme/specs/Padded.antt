-- A list that is padded to a fixed number of places.
use Rattle.std.specs.Prelude.{ℕ, ◌≡◌, ◌-◌, ◌++◌, List, length, take, replicate}

-- the first `len` of `room` places are used, and the others have the filler
pub record IsPadded {X : Type 0} (room : ℕ) (filler : X) (len : ℕ) (items : List X) : Type 0 where
  pub full : length (take len items) ≡ len
  pub fillers : items ≡ take len items ++ replicate (room - len) filler
