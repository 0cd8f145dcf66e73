use Rattle.qd_stream.proofs.CapLaws.{cap-step}
use Rattle.qd_stream.proofs.StepLaws.{entered-step}
use Rattle.qd_stream.proofs.stripe.StreamStripe.step.Goals as goal

pub returns-clause-cap : goal.returns-clause-cap
returns-clause-cap c = cap-step c.args.self.now c.apply.new.self c.args.op c.apply.result c.apply.ensures.step

pub returns-clause-entered : goal.returns-clause-entered
returns-clause-entered c = entered-step c.args.self.now c.apply.new.self c.args.op c.apply.result c.apply.ensures.step
