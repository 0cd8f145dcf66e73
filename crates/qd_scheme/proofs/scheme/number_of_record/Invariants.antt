use Rattle.std.proofs.Common.{◌≡◌, ◌+◌, drop}
use Rattle.std.specs.Prelude.{option_map}
use Rattle.qd_scheme.specs.Finding.{number_of_record}
use Rattle.qd_scheme.proofs.scheme.number_of_record.Given as goal

abbrev pub invariant-loop-i : goal.invariant-loop-i
invariant-loop-i l = number_of_record l.name l.defs ≡ option_map (λ n. l.i + n) (number_of_record l.name (drop l.i l.defs))
