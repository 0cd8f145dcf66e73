-- What is done at the end of a dump.
use Rattle.std.proofs.Common.{ℕ, ◌≡◌, Bool, Option, List, refl}
use Rattle.qd_scheme.specs.declared.defs.RecordDef.{RecordDef}
use Rattle.qd_client.specs.declared.ends.DumpEnd.{DumpEnd}
use Rattle.qd_client.specs.declared.ends.DumpEnd.TheVariants.{Done, CutOff, Bad, LineTooLong, TooMuch, LinkFault, WriteFault, NoMemory}
use Rattle.qd_client.specs.Dumps.{Leaving}

-- nothing is sent where it is not done
pub left_as_is : (end : DumpEnd) (defs : List RecordDef) (was : Option (List ℕ)) (flushed : Bool) (before : ℕ) → (end ≡ Done → ⊥) → Leaving end defs end was was flushed flushed before before
left_as_is Done defs was flushed before n = absurd (n refl)
left_as_is (CutOff line) defs was flushed before n = (refl, refl, refl, refl)
left_as_is (Bad bad) defs was flushed before n = (refl, refl, refl, refl)
left_as_is (LineTooLong line) defs was flushed before n = (refl, refl, refl, refl)
left_as_is TooMuch defs was flushed before n = (refl, refl, refl, refl)
left_as_is LinkFault defs was flushed before n = (refl, refl, refl, refl)
left_as_is WriteFault defs was flushed before n = (refl, refl, refl, refl)
left_as_is NoMemory defs was flushed before n = (refl, refl, refl, refl)
