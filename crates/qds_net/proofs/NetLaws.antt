-- What was found in the words is what they ask for.
use Rattle.std.proofs.Common.{◌≡◌, Option, Some, subst}
use Rattle.qd_words.specs.NetAsking.{NetAsked}
use Rattle.qds_tools.specs.declared.program_end.ProgramEnd.{ProgramEnd}
use Rattle.qds_net.specs.Worlds.{World}
use Rattle.qds_net.specs.Ends.{Ends}

pub asked_ends : (found wanted : NetAsked) (asks : Option NetAsked) (end : ProgramEnd) (o w : World) → Some found ≡ asks → asks ≡ Some wanted → Ends found end o w → Ends wanted end o w
asked_ends found wanted asks end o w e f h = let same : found ≡ wanted = cc in subst (λ (x : NetAsked). Ends x end o w) same h
