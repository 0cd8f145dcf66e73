-- A text that is told at once.
use Rattle.std.specs.Prelude.{ℕ, ◌≡◌, Bool, true, false, List, Option}
use Rattle.qd_outside.specs.Writing.{IsWritten, IsCutShort}

-- a text was written and flushed; or a fault came, and a first part was written
abbrev pub Tells : Bool → List ℕ → Option (List ℕ) → Option (List ℕ) → Bool → ℕ → ℕ → Type 0
Tells true text was now flushed before after = IsWritten text was now before after × (flushed ≡ true)
Tells false text was now flushed before after = IsCutShort text was now before after
