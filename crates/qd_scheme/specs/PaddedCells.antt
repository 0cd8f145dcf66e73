-- The fields of a list of cells, from its values.
use Rattle.std.specs.Prelude.{ℕ, ◌≡◌, ◌-◌, ◌++◌, ℤ, pos, List, length, take, replicate, refl}
use Rattle.qd_scheme.specs.Padded.{IsPadded}
use Rattle.qd_scheme.specs.declared.cells.Cells.TheInside.{Inside}

-- the values, and zeros up to 16
abbrev pub with_padding : List ℤ → Inside
with_padding xs = record { len = length xs; values = xs ++ replicate (16 - length xs) (pos 0) }

same : (m n : ℕ) (xs ys : List ℤ) → m ≡ n → xs ≡ ys → (let a : Inside = record { len = m; values = xs } in let b : Inside = record { len = n; values = ys } in a ≡ b)
same m n xs ys p q = cc

pub with_padding_back : (a : Inside) → IsPadded 16 (pos 0) a.len a.values → with_padding (take a.len a.values) ≡ a
with_padding_back a h = same (length (take a.len a.values)) a.len (take a.len a.values ++ replicate (16 - length (take a.len a.values)) (pos 0)) a.values h.full (rw h.full (rw (← h.fillers) refl))
