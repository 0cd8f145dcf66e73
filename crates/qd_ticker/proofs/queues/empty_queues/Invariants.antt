use Rattle.std.proofs.Common.{◌≡◌, replicate}
use Rattle.qd_ticker.specs.Stripes.{no_queue}
use Rattle.qd_ticker.proofs.queues.empty_queues.Given as goal

abbrev pub invariant-loop-agent : goal.invariant-loop-agent
invariant-loop-agent l = l.queues.items ≡ replicate l._agent no_queue
