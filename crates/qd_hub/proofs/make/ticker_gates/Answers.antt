use Rattle.std.proofs.Common.{refl, arith}
use Rattle.qd_ticker.specs.Legal.{no_terms}
use Rattle.qd_hub.proofs.Making.{none_first, one_more_first, as_many_first}
use Rattle.qd_hub.proofs.make.ticker_gates.Goals as goal

pub loop-stripe-init : goal.loop-stripe-init
loop-stripe-init c = none_first no_terms c.empty-row.result.0 c.empty-row.result.1 c.empty-row.ensures.gates c.empty-row.ensures.passes

pub add-requires-clause-home : goal.add-requires-clause-home
add-requires-clause-home c κs = c.loop-stripe.invariant.of_gates

pub loop-stripe-preserved : goal.loop-stripe-preserved
loop-stripe-preserved c = one_more_first c.loop-stripe._stripe no_terms no_terms c.loop-stripe.row c.add.new.self c.loop-stripe.passes c.add.new.passes c.loop-stripe.invariant c.in_ok-add.ensures.home c.in_ok-add.ensures.added refl

pub returns : goal.returns
returns c = as_many_first c.loop-stripe._stripe c.args.stripes no_terms c.loop-stripe.row c.loop-stripe.passes c.loop-stripe.invariant (let a = c.loop-stripe-test.false in let b = c.loop-stripe.auto._stripe-end in omega arith)
