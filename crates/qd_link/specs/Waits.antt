-- How many tries in a row are counted.
use Rattle.std.specs.Prelude.{ℕ, ◌+◌, min}

-- a count of tries after one more: beyond 68 all are alike
abbrev pub one_more_try : ℕ → ℕ
one_more_try tries = min (tries + 1) 68
