-- When two keys are one.
use Rattle.std.specs.Prelude.{Bool, ◌&&◌, nat_eq}
use Rattle.std.specs.Cmp.Lexicographic.{pointwise}
use Rattle.qd_scheme.specs.declared.sym.Sym.{Sym}
use Rattle.qd_scheme.specs.declared.key.Key.{Key}

-- two symbols are one
abbrev pub sym_eq : Sym → Sym → Bool
sym_eq = pointwise nat_eq

-- two keys are one
unfoldable pub key_eq : Key → Key → Bool
key_eq a b = nat_eq a.rec b.rec && sym_eq a.sym b.sym
