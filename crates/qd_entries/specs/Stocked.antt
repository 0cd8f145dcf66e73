-- What a stock of nodes is seen as.
use Rattle.std.specs.Prelude.{ℕ}

-- so many nodes to take, with room for so many in all
pub record Stocked : Type 0 where
  pub spare : ℕ
  pub room : ℕ
