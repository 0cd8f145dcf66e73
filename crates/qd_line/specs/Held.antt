-- What a cutter of lines holds.
use Rattle.std.specs.Prelude.{ℕ, List}

-- the text of the line given last, where nothing was asked or fed since; the bytes fed that are not given yet; the
-- number of lines given
pub record Held : Type 0 where
  pub text : List ℕ
  pub left : List ℕ
  pub line : ℕ
