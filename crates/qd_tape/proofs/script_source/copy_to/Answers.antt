use Rattle.std.proofs.Common.{arith}
use Rattle.qd_tape.proofs.Sources.{copied}
use Rattle.qd_tape.proofs.script_source.copy_to.Goals as goal

pub returns-clause-copied : goal.returns-clause-copied
returns-clause-copied c = let m = c.min-n.ensures in copied _ _ _ _ _ _ c.min-n.result c.copy_from_slice.ensures.after c.requires.at (omega (arith, m)) c.requires.from
