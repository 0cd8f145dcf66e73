use Rattle.std.proofs.Common.{Some, ap}
use Rattle.qd_tape.proofs.Sources.{source_left-new}
use Rattle.qd_tape.proofs.script_source.ScriptSource.new.Goals as goal

pub returns-clause-left : goal.returns-clause-left
returns-clause-left c = ap Some (source_left-new _ _ c.args.start c.args.count c.new-2.ensures c.new.ensures)
