use Rattle.qd_tape.proofs.TapeLaws.{written_as_said, read_as_said}
use Rattle.qd_tape.proofs.laws.tape_again.Goals as goal

pub returns : goal.returns
returns c = record { written = written_as_said; read = read_as_said }
