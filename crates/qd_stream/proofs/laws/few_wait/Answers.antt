use Rattle.qd_stream.specs.Legal.{moment_of}
use Rattle.qd_stream.proofs.WaitingLaws.{length-waiting}
use Rattle.qd_stream.proofs.laws.few_wait.Goals as goal

pub returns : goal.returns
returns c = record { few = λ terms log a legal. length-waiting terms.cap a (moment_of log) }
