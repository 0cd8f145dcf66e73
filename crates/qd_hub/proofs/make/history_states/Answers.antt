use Rattle.std.proofs.Common.{arith}
use Rattle.qd_hist_stand.specs.Stripes.{Stands, terms_in}
use Rattle.qd_hist_rules.specs.Legal.{terms_of}
use Rattle.qd_hub.proofs.Making.{none_new, one_more_new, as_many_new}
use Rattle.qd_hub.proofs.make.history_states.Goals as goal

pub loop-stripe-init : goal.loop-stripe-init
loop-stripe-init c = none_new Stands terms_in (terms_of c.args.hcap 0) c.in_ok-states.states.items c.in_ok-states.ensures.items

pub loop-stripe-preserved : goal.loop-stripe-preserved
loop-stripe-preserved c = one_more_new Stands terms_in c.loop-stripe._stripe (terms_of c.args.hcap 0) c.loop-stripe.states.items c.push.new.self.items c.in_ok-with_seed.field-0 c.loop-stripe.invariant c.in_ok-with_seed.ensures.stands c.in_ok-with_seed.ensures.terms c.in_ok-push.ensures.items

pub returns : goal.returns
returns c = as_many_new Stands terms_in c.loop-stripe._stripe c.args.stripes (terms_of c.args.hcap 0) c.loop-stripe.states.items c.loop-stripe.invariant (let a = c.loop-stripe-test.false in let b = c.loop-stripe.auto._stripe-end in omega arith)
