use Rattle.qd_client.proofs.ThroughLaws.{not_all_written}
use Rattle.qd_client.proofs.through.write_through.Goals as goal

pub returns-then-not-drain-clause-writes : goal.returns-then-not-drain-clause-writes
returns-then-not-drain-clause-writes g c = not_all_written _ _ _ _ _ _ c.drain.new.self _ (g.K.Sink.flushed c.drain.new.sink) _ c.in_ok-halt.ensures.reads c.if-not-drain.ensures.drains
