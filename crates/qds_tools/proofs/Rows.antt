-- Lines on faults that read as they should.
use Rattle.std.proofs.Common.{◌≡◌, [], ◌∷◌, ◌++◌, refl}
use Rattle.std.specs.Prelude.{codes}
use Rattle.qd_items.specs.declared.ends.RunEnd.TheVariants as runs
use Rattle.qd_scheme_file.specs.declared.no_scheme.NoScheme.TheVariants as schemes
use Rattle.qds_tools.specs.declared.program_end.ProgramEnd.TheVariants.{Usage, Refused, Ran}
use Rattle.qds_tools.specs.FaultLines.{fault_line}

usage : fault_line Usage ≡ codes "qds: usage" ++ 10 ∷ []
usage = refl

done : fault_line (Ran runs.Done) ≡ []
done = refl

too_much : fault_line (Ran runs.TooMuch) ≡ codes "qds: TooMuch" ++ 10 ∷ []
too_much = refl

read_fault : fault_line (Ran runs.ReadFault) ≡ codes "qds: read fault" ++ 10 ∷ []
read_fault = refl

scheme_too_much : fault_line (Refused schemes.TooMuch) ≡ codes "qds: scheme: TooMuch" ++ 10 ∷ []
scheme_too_much = refl
