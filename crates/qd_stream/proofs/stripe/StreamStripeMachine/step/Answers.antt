use Rattle.std.proofs.Common.{ap}
use Rattle.qd_stream.specs.Legal.{terms_of}
use Rattle.qd_stream.proofs.CapLaws.{cap-step}
use Rattle.qd_stream.proofs.StepLaws.{entered-step}
use Rattle.qd_stream.proofs.stripe.StreamStripeMachine.step.Goals as goal

pub returns-clause-terms : goal.returns-clause-terms
returns-clause-terms c = ap terms_of (cap-step c.args.self.now c.apply.new.self c.args.op c.apply.result c.apply.ensures.step)

pub returns-clause-entered : goal.returns-clause-entered
returns-clause-entered c = entered-step c.args.self.now c.apply.new.self c.args.op c.apply.result c.apply.ensures.step
