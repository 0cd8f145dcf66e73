use Rattle.std.proofs.Common.{ap, refl}
use Rattle.qd_sub.specs.declared.op.Reply.TheVariants.{Items, Wants}
use Rattle.qd_stream.specs.Steps.{StepsTo}
use Rattle.qd_stream.proofs.stripe.StreamStripe.apply.Goals as goal

pub returns-in-Add : goal.returns-in-Add
unfolding StepsTo
returns-in-Add c = record { step = rw c.in-Add.is (rw c.as_slice.ensures.items at c.add.ensures.added) }

pub returns-in-Remove : goal.returns-in-Remove
unfolding StepsTo
returns-in-Remove c = record { step = rw c.in-Remove.is (refl, rw c.as_slice-in-Remove.ensures.items at c.remove.ensures) }

pub returns-in-Close : goal.returns-in-Close
unfolding StepsTo
returns-in-Close c = record { step = rw c.in-Close.is (refl, c.close.ensures) }

pub returns-in-Put : goal.returns-in-Put
unfolding StepsTo
returns-in-Put c = record { step = rw c.in-Put.is (refl, rw c.as_slice-in-Put.ensures.items at c.put_all.ensures) }

pub returns-in-Take : goal.returns-in-Take
unfolding StepsTo
returns-in-Take c = record { step = rw c.in-Take.is (let g = c.take.ensures.given in (g.0, ap Items g.1, g.2)) }

pub returns-in-Watch : goal.returns-in-Watch
unfolding StepsTo
returns-in-Watch c = record { step = rw c.in-Watch.is (c.watch.ensures.watcher, ap Wants c.watch.ensures.wants, c.watch.ensures.told, c.watch.ensures.boxes) }
