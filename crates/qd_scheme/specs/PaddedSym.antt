-- The fields of a symbol, from its bytes.
use Rattle.std.specs.Prelude.{ℕ, ◌≡◌, ◌-◌, ◌++◌, List, length, take, replicate, refl}
use Rattle.qd_scheme.specs.Padded.{IsPadded}
use Rattle.qd_scheme.specs.declared.sym.Sym.TheInside.{Inside}

-- the bytes, and zeros up to 64
abbrev pub with_padding : List ℕ → Inside
with_padding xs = record { len = length xs; bytes = xs ++ replicate (64 - length xs) 0 }

same : (m n : ℕ) (xs ys : List ℕ) → m ≡ n → xs ≡ ys → (let a : Inside = record { len = m; bytes = xs } in let b : Inside = record { len = n; bytes = ys } in a ≡ b)
same m n xs ys p q = cc

pub with_padding_back : (a : Inside) → IsPadded 64 0 a.len a.bytes → with_padding (take a.len a.bytes) ≡ a
with_padding_back a h = same (length (take a.len a.bytes)) a.len (take a.len a.bytes ++ replicate (64 - length (take a.len a.bytes)) 0) a.bytes h.full (rw h.full (rw (← h.fillers) refl))
