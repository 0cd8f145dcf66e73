use Rattle.std.proofs.Common.{◌≡◌, map, take}
use Rattle.qd_scheme.specs.Finding.{name_code}
use Rattle.qd_scheme.proofs.scheme.codes_of.Given as goal

abbrev pub invariant-loop-def : goal.invariant-loop-def
invariant-loop-def l = l.codes.items ≡ map (λ def. name_code def.name) (take l.def-index l.defs)
