use Rattle.std.proofs.Common.{◌≡◌, ◌+◌, ◌++◌, length, drop}
use Rattle.std.specs.VecDeque.{deque_capacity, deque_len}
use Rattle.qd_hist_feed.specs.Feeding.{owed_items}
use Rattle.qd_hist_feed.proofs.feed.owe.Given as goal

abbrev pub invariant-loop-i : goal.invariant-loop-i
invariant-loop-i l = record {
  items : l.owed.items ++ owed_items l.stage l.floor l.fn.number (drop l.i l.batch) ≡ l.fn.owed.items ++ owed_items l.stage l.floor l.fn.number l.batch;
  capacity : deque_capacity l.owed ≡ deque_capacity l.fn.owed;
  len : deque_len l.owed + length (owed_items l.stage l.floor l.fn.number (drop l.i l.batch)) ≡ deque_len l.fn.owed + length (owed_items l.stage l.floor l.fn.number l.batch);
}
