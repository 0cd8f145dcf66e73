use Rattle.qd_calls.proofs.Parts.{sub_due}
use Rattle.qd_calls.proofs.cutting.SubGrouped.call.Goals as goal

pub returns-clause-due : goal.returns-clause-due
returns-clause-due c = λ n stripe h at. rw c.sub_call.ensures (sub_due n stripe c.args.message c.args.agent c.args.part h c.requires.few c.requires.sound at)
