use Rattle.qd_hist_rules.proofs.SnapshotItems.{kept_lawful, shared_lawful, at_floor_lawful}
use Rattle.qd_hist_rules.proofs.laws.snapshot_is_lawful.Goals as goal

pub returns-clause-kept : goal.returns-clause-kept
returns-clause-kept c = kept_lawful

pub returns-clause-shared : goal.returns-clause-shared
returns-clause-shared c = shared_lawful

pub returns-clause-at_floor : goal.returns-clause-at_floor
returns-clause-at_floor c = at_floor_lawful
