use Rattle.std.proofs.Common.{inr}
use Rattle.qds_net.proofs.program.run_dump.Goals as goal

pub returns-in-Ok : goal.returns-in-Ok
returns-in-Ok g c = λ o. inr (c.in-Ok.scheme, g.F.Files.told c.scheme_of.new.files, c.in-Ok.ensures, c.dump.ensures (record o { files = g.F.Files.told c.scheme_of.new.files }))
