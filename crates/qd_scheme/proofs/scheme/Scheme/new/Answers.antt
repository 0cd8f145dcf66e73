use Rattle.std.proofs.Common.{◌≡◌, None, sym, ◌∙◌}
use Rattle.qd_scheme.specs.Faults.{scheme_fault}
use Rattle.qd_scheme.proofs.Schemes.{scheme_right}
use Rattle.qd_scheme.proofs.scheme.Scheme.new.Goals as goal

pub invariant_of-result : goal.invariant_of-result
invariant_of-result c =
    let right : scheme_fault c.as_slice.result.now ≡ None = sym c.scheme_fault.ensures ∙ c.in_default.is in
    (rw (← c.as_slice-2.ensures.value) c.in-Ok.ensures, scheme_right c.args.defs.items (rw (← c.as_slice.ensures.value) right))
