-- When the two sides of a node are balanced.
use Rattle.std.specs.Prelude.{ℕ, ◌≤◌, ◌+◌, ◌*◌}

-- with one added to each, neither side has more than three times as many entries as the other
pub record IsBalanced (before after : ℕ) : Type 0 where
  pub before_most : before + 1 ≤ 3 * (after + 1)
  pub after_most : after + 1 ≤ 3 * (before + 1)

-- they are balanced, or were so before one side had an entry more or less
pub record IsNear (before after : ℕ) : Type 0 where
  pub before_most : before ≤ 3 * after + 5
  pub after_most : after ≤ 3 * before + 5
