use Rattle.qd_tape.proofs.Blocks.{left_behind_opening, left_behind_block}
use Rattle.qd_tape.proofs.script.Script.next_block.Goals as goal

pub returns-in-Opening-clause-lines : goal.returns-in-Opening-clause-lines
returns-in-Opening-clause-lines c = left_behind_opening _ _ _ _ _ c.self.view_is c.in-Opening.is c.add_opening.ensures.lines

pub returns-then-i-self-clause-lines : goal.returns-then-i-self-clause-lines
returns-then-i-self-clause-lines c = left_behind_block _ _ _ _ _ _ _ _ c.self.view_is c.in-Feeding.is c.if-i-self.true c.self.invariant c.next_drawn-self-inside.ensures.drawn c.add_block.ensures
