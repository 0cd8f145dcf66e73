use Rattle.qd_history.proofs.StepLaws.{laws, entered-step}
use Rattle.qd_history.proofs.TermLaws.{terms-step}
use Rattle.qd_history.proofs.stripe.HistoryStripeMachine.step.Goals as goal

pub returns-clause-terms : goal.returns-clause-terms
returns-clause-terms c = terms-step c.args.self.now c.apply.new.self c.args.op c.apply.result c.apply.ensures

pub returns-clause-entered : goal.returns-clause-entered
returns-clause-entered c = entered-step laws c.args.self.now c.apply.new.self c.args.op c.apply.result c.apply.ensures
