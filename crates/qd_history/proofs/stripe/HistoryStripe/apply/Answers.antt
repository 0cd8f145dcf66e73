use Rattle.std.proofs.Common.{ap, refl}
use Rattle.qd_hist_rules.specs.declared.reply.HistoryReply.TheVariants.{Items, Wants}
use Rattle.qd_history.specs.Steps.{StepsTo}
use Rattle.qd_history.proofs.stripe.HistoryStripe.apply.Goals as goal

pub returns-in-Add : goal.returns-in-Add
unfolding StepsTo
returns-in-Add c = rw c.in-Add.is (rw c.as_slice.ensures.items at c.add.ensures)

pub returns-in-Remove : goal.returns-in-Remove
unfolding StepsTo
returns-in-Remove c = rw c.in-Remove.is (refl, rw c.as_slice-in-Remove.ensures.items at c.remove.ensures)

pub returns-in-Close : goal.returns-in-Close
unfolding StepsTo
returns-in-Close c = rw c.in-Close.is (let e = c.close.ensures in (refl, e.0, e.1))

pub returns-in-Put : goal.returns-in-Put
unfolding StepsTo
returns-in-Put c = rw c.in-Put.is (rw c.as_slice-in-Put.ensures.items at c.put_items.ensures)

pub returns-in-Take : goal.returns-in-Take
unfolding StepsTo
returns-in-Take c = rw c.in-Take.is (let g = c.take.ensures in (g.0, ap Items g.1, g.2))

pub returns-in-Watch : goal.returns-in-Watch
unfolding StepsTo
returns-in-Watch c = rw c.in-Watch.is (ap Wants c.watch.ensures.told, c.watch.ensures.left)
