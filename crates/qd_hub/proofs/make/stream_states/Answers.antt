use Rattle.std.proofs.Common.{ap, arith}
use Rattle.qd_stream.specs.Stripes.{Shown, Stands}
use Rattle.qd_stream.specs.Legal.{terms_of}
use Rattle.qd_hub.proofs.Making.{none_new, one_more_new, as_many_new}
use Rattle.qd_hub.proofs.make.stream_states.Goals as goal

pub loop-stripe-init : goal.loop-stripe-init
loop-stripe-init c = none_new Stands (λ (s : Shown). terms_of s.boxes.cap) (terms_of c.args.cap) c.in_ok-states.states.items c.in_ok-states.ensures.items

pub loop-stripe-preserved : goal.loop-stripe-preserved
loop-stripe-preserved c = one_more_new Stands (λ (s : Shown). terms_of s.boxes.cap) c.loop-stripe._stripe (terms_of c.args.cap) c.loop-stripe.states.items c.push.new.self.items c.in_ok-with_seed.field-0 c.loop-stripe.invariant c.in_ok-with_seed.ensures.0 (ap terms_of c.in_ok-with_seed.ensures.1) c.in_ok-push.ensures.items

pub returns : goal.returns
returns c = as_many_new Stands (λ (s : Shown). terms_of s.boxes.cap) c.loop-stripe._stripe c.args.stripes (terms_of c.args.cap) c.loop-stripe.states.items c.loop-stripe.invariant (let a = c.loop-stripe-test.false in let b = c.loop-stripe.auto._stripe-end in omega arith)
