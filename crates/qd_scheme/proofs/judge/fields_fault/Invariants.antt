use Rattle.std.proofs.Common.{◌≡◌, take, drop}
use Rattle.std.specs.Prelude.{option_map}
use Rattle.qd_scheme.specs.Faults.{first_wrong, field_fault, fields_fault}
use Rattle.qd_scheme.proofs.judge.fields_fault.Given as goal

abbrev pub invariant-loop-i : goal.invariant-loop-i
invariant-loop-i l = fields_fault l.fields ≡ option_map (λ wrong. wrong.1) (first_wrong field_fault l.i (take l.i l.fields) (drop l.i l.fields))
