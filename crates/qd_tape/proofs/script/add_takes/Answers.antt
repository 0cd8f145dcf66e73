use Rattle.std.specs.Fmt.{digits}
use Rattle.qd_grammar.specs.Canonical.{canonical}
use Rattle.qd_tape.proofs.script.add_takes.Goals as goal

pub returns : goal.returns
unfolding canonical digits
returns c = c.add.ensures.text
