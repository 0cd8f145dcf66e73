use Rattle.std.proofs.Common.{◌≡◌, [], take, drop}
use Rattle.qd_scheme.specs.Faults.{first_wrong, record_fault}
use Rattle.qd_scheme.proofs.judge.scheme_fault.Given as goal

abbrev pub invariant-loop-i : goal.invariant-loop-i
invariant-loop-i l = first_wrong record_fault 0 [] l.defs ≡ first_wrong record_fault l.i (take l.i l.defs) (drop l.i l.defs)
