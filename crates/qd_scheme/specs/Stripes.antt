-- The stripe of a key: which part of a collector it belongs to.
use Rattle.std.specs.Prelude.{ℕ, ◌+◌, ◌%◌, ◌≡◌, ◌⊎◌, sum}
use Rattle.qd_scheme.specs.declared.key.Key.{Key}

-- a collector has 1, 2, 4, 8 or 16 stripes
abbrev pub IsStripeCount : ℕ → Type 0
IsStripeCount n = (n ≡ 1) ⊎ (n ≡ 2) ⊎ (n ≡ 4) ⊎ (n ≡ 8) ⊎ (n ≡ 16)

-- the record number and the symbol's bytes together, modulo the number of stripes
abbrev pub stripe_of : Key → ℕ → ℕ
stripe_of key n = (key.rec + sum key.sym) % n
