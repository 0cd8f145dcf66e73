use Rattle.std.proofs.Common.{refl, arith}
use Rattle.qd_ticker.specs.Stripes.{Shown, Stands}
use Rattle.qd_ticker.specs.Legal.{no_terms}
use Rattle.qd_hub.proofs.Making.{none_new, one_more_new, as_many_new}
use Rattle.qd_hub.proofs.make.ticker_states.Goals as goal

pub loop-stripe-init : goal.loop-stripe-init
loop-stripe-init c = none_new Stands (λ (s : Shown). no_terms) no_terms c.in_ok-states.states.items c.in_ok-states.ensures.items

pub loop-stripe-preserved : goal.loop-stripe-preserved
loop-stripe-preserved c = one_more_new Stands (λ (s : Shown). no_terms) c.loop-stripe._stripe no_terms c.loop-stripe.states.items c.push.new.self.items c.in_ok-with_seed.field-0 c.loop-stripe.invariant c.in_ok-with_seed.ensures refl c.in_ok-push.ensures.items

pub returns : goal.returns
returns c = as_many_new Stands (λ (s : Shown). no_terms) c.loop-stripe._stripe c.args.stripes no_terms c.loop-stripe.states.items c.loop-stripe.invariant (let a = c.loop-stripe-test.false in let b = c.loop-stripe.auto._stripe-end in omega arith)
