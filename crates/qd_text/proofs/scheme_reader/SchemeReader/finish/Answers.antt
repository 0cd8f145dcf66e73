use Rattle.std.proofs.Common.{◌≡◌, ◌<◌, List, length, take, ap, subst, ◌∙◌, arith, rules}
use Rattle.std.specs.Prelude.{Some, None, slice_get}
use Rattle.qd_scheme.specs.Faults.{scheme_fault, IsFaultOf}
use Rattle.qd_scheme.specs.declared.defs.RecordDef.{RecordDef}
use Rattle.qd_scheme.specs.declared.faults.SchemeFault.TheVariants.{Wrong}
use Rattle.qd_text.specs.SchemeLines.{SchemeText}
use Rattle.qd_text.proofs.SchemeFields.{fault_within, right_forgone, get_taken}
use Rattle.qd_text.proofs.scheme_reader.SchemeReader.finish.Goals as goal

pub line_of-line-requires : goal.line_of-line-requires
line_of-line-requires c =
    let fault : scheme_fault c.self.inside.defs.items ≡ Some (Wrong c.in-Err-Wrong.rec c.in-Err-Wrong.why) = search rules in
    rw c.as_slice.ensures.value (omega (arith, fault_within c.self.inside.defs.items c.in-Err-Wrong.rec c.in-Err-Wrong.why fault, c.self.invariant))

pub returns-clause-refused : goal.returns-clause-refused
returns-clause-refused c =
    let fault : scheme_fault c.self.inside.defs.items ≡ Some (Wrong c.in-Err-Wrong.rec c.in-Err-Wrong.why) = search rules in
    let within : c.in-Err-Wrong.rec < length c.self.inside.defs.items = fault_within c.self.inside.defs.items c.in-Err-Wrong.rec c.in-Err-Wrong.why fault in
    let got : slice_get c.self.inside.places.items c.in-Err-Wrong.rec ≡ Some c.line_of-line.result = rw c.as_slice.ensures.value at c.line_of-line.ensures in
    let taken : slice_get (take (length c.self.inside.defs.items) c.self.inside.places.items) c.in-Err-Wrong.rec ≡ Some c.line_of-line.result = get_taken c.self.inside.places.items (length c.self.inside.defs.items) c.in-Err-Wrong.rec within ∙ got in (
      c.in-Err-Wrong.rec,
      (
        subst (λ (defs : List RecordDef). scheme_fault defs ≡ Some (Wrong c.in-Err-Wrong.rec c.in-Err-Wrong.why)) (ap (λ (t : SchemeText). t.defs) c.self.view_is) fault,
        subst (λ places. slice_get places c.in-Err-Wrong.rec ≡ Some c.line_of-line.result) (ap (λ (t : SchemeText). t.places) c.self.view_is) taken,
      ),
    )

pub returns-in-Err-NoMemory-clause-refused : goal.returns-in-Err-NoMemory-clause-refused
returns-in-Err-NoMemory-clause-refused c =
    let fault = subst (IsFaultOf c.self.inside.defs.items) c.in-Err-NoMemory.field-0-is c.in-Err-NoMemory.ensures.refused in
    subst (λ (defs : List RecordDef). scheme_fault defs ≡ None) (ap (λ (t : SchemeText). t.defs) c.self.view_is) (right_forgone c.self.inside.defs.items fault)
