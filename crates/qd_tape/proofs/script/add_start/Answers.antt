use Rattle.std.specs.Fmt.{digits}
use Rattle.qd_decimal.specs.Texts.{dec_text, magnitude_text}
use Rattle.qd_grammar.specs.Canonical.{canonical}
use Rattle.qd_tape.specs.Scripts.{first_items}
use Rattle.qd_tape.proofs.script.add_start.Goals as goal

pub returns-clause-lines : goal.returns-clause-lines
unfolding first_items canonical digits dec_text magnitude_text
returns-clause-lines c = rw c.requires at c.add.ensures.text
