use Rattle.std.proofs.Common.{ℕ, List, ◌++◌, sym, ◌∙◌, ap}
use Rattle.qd_scheme.specs.Builtin.{builtin_defs}
use Rattle.qd_tape.specs.Scripts.{lines_text, three_takes}
use Rattle.qd_tape.proofs.Blocks.{opening_takes}
use Rattle.qd_tape.proofs.script.add_opening.Goals as goal

pub returns-then-count-eq0-clause-lines : goal.returns-then-count-eq0-clause-lines
returns-then-count-eq0-clause-lines c = c.add_takes.ensures ∙ ap (λ (l : List ℕ). l ++ lines_text builtin_defs three_takes) c.add_start.ensures.lines ∙ sym (opening_takes builtin_defs c.args.count c.if-count-eq0.true)
