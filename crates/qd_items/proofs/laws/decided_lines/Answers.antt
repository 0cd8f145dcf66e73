use Rattle.qd_items.proofs.DecidingLaws.{decided_lines}
use Rattle.qd_items.proofs.laws.decided_lines.Goals as goal

pub returns : goal.returns
returns c = decided_lines
