use Rattle.qd_tape.proofs.ScriptLaws.{script_read}
use Rattle.qd_tape.proofs.WholeLaws.{script_whole}
use Rattle.qd_tape.proofs.laws.script_again.Goals as goal

pub returns : goal.returns
returns c = record { read = script_read; whole = script_whole }
