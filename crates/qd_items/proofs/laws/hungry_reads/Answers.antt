use Rattle.qd_items.proofs.StepLaws.{hungry_reads}
use Rattle.qd_items.proofs.laws.hungry_reads.Goals as goal

pub returns : goal.returns
returns c = hungry_reads
