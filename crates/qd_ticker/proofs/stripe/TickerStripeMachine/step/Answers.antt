use Rattle.qd_ticker.specs.Legal.{no_terms}
use Rattle.qd_ticker.proofs.StepLaws.{entered-step}
use Rattle.qd_ticker.proofs.stripe.TickerStripeMachine.step.Goals as goal

pub returns-clause-entered : goal.returns-clause-entered
returns-clause-entered c = entered-step c.args.self.now c.apply.new.self c.args.op c.apply.result c.apply.ensures.step no_terms
