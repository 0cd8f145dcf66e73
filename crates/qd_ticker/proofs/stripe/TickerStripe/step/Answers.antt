use Rattle.qd_ticker.specs.Legal.{no_terms}
use Rattle.qd_ticker.proofs.StepLaws.{entered-step}
use Rattle.qd_ticker.proofs.stripe.TickerStripe.step.Goals as goal

pub returns : goal.returns
returns c = record { entered = entered-step c.args.self.now c.apply.new.self c.args.op c.apply.result c.apply.ensures.step no_terms }
