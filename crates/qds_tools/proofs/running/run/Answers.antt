use Rattle.qds_tools.proofs.running.run.Goals as goal

pub returns-in-Replay-clause-runs : goal.returns-in-Replay-clause-runs
returns-in-Replay-clause-runs g c = rw c.in-Replay.is (rw c.config_of.ensures at c.replay_alone.ensures.ends, rw c.config_of.ensures at c.replay_alone.ensures.decided)
