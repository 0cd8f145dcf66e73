use Rattle.qd_ticker.proofs.StepLaws.{answers-add, answers-remove, answers-close, answers-put, answers-take, answers-watch}
use Rattle.qd_ticker.proofs.stripe.TickerStripe.apply.Goals as goal

pub returns-in-Add : goal.returns-in-Add
returns-in-Add c = record { step = rw c.in-Add.is (answers-add c.args.self.now c.add.new.self c.in-Add.agent c.in-Add.subs c.add.result (rw c.as_slice.ensures.items at c.add.ensures)) }

pub returns-in-Remove : goal.returns-in-Remove
returns-in-Remove c = record { step = rw c.in-Remove.is (answers-remove c.args.self.now c.remove.new.self c.in-Remove.agent c.in-Remove.keys (rw c.as_slice-in-Remove.ensures.items at c.remove.ensures)) }

pub returns-in-Close : goal.returns-in-Close
returns-in-Close c = record { step = rw c.in-Close.is (answers-close c.args.self.now c.close.new.self c.in-Close.agent c.close.ensures) }

pub returns-in-Put : goal.returns-in-Put
returns-in-Put c = record { step = rw c.in-Put.is (answers-put c.args.self.now c.put_all.new.self c.in-Put.items (rw c.as_slice-in-Put.ensures.items at c.put_all.ensures)) }

pub returns-in-Take : goal.returns-in-Take
returns-in-Take c = record { step = rw c.in-Take.is (answers-take c.args.self.now c.take.new.self c.in-Take.agent c.in-Take.max c.in-Take.out c.take.new.out c.take.ensures) }

pub returns-in-Watch : goal.returns-in-Watch
returns-in-Watch c = record { step = rw c.in-Watch.is (answers-watch c.args.self.now c.watch.new.self c.in-Watch.watcher c.in-Watch.max c.in-Watch.out c.watch.new.out c.watch.ensures.told c.watch.ensures.left) }
