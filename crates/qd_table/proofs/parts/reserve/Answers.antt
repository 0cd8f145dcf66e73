use Rattle.qd_slots.proofs.HoldLaws.{roomier-same}
use Rattle.qd_slots.proofs.IndexLaws.{grown-none}
use Rattle.qd_slots.proofs.ViewLaws.{each-wider-same}
use Rattle.qd_table.proofs.CellSteps.{grown-either}
use Rattle.qd_table.proofs.parts.reserve.Goals as goal

pub returns-in_err-reserve-in-Some-clause-names : goal.returns-in_err-reserve-in-Some-clause-names
returns-in_err-reserve-in-Some-clause-names c = grown-none c.args.names.now.names

pub returns-in_err-reserve-in-Some-clause-watchers : goal.returns-in_err-reserve-in-Some-clause-watchers
returns-in_err-reserve-in-Some-clause-watchers c = each-wider-same c.args.watchers.now

pub returns-in_err-reserve-in-Some-2-clause-names : goal.returns-in_err-reserve-in-Some-2-clause-names
returns-in_err-reserve-in-Some-2-clause-names c = grown-none c.args.names.now.names

pub returns-in_err-reserve-in-Some-2-clause-watchers : goal.returns-in_err-reserve-in-Some-2-clause-watchers
returns-in_err-reserve-in-Some-2-clause-watchers c = each-wider-same c.args.watchers.now

pub returns-in_err-reserve-in-Some-3-clause-names : goal.returns-in_err-reserve-in-Some-3-clause-names
returns-in_err-reserve-in-Some-3-clause-names c = grown-none c.args.names.now.names

pub returns-in-None-clause-names : goal.returns-in-None-clause-names
returns-in-None-clause-names c = grown-none c.args.names.now.names

pub returns-in-None-clause-holds : goal.returns-in-None-clause-holds
returns-in-None-clause-holds c = roomier-same c.args.holds.now

pub returns-in-None-clause-watchers : goal.returns-in-None-clause-watchers
returns-in-None-clause-watchers c = each-wider-same c.args.watchers.now

pub returns-in_ok-reserve-in-Some-3-clause-names : goal.returns-in_ok-reserve-in-Some-3-clause-names
returns-in_ok-reserve-in-Some-3-clause-names c = grown-either c.reserve-in-Some-3.result c.args.names.now c.reserve-in-Some-3.new.self c.reserve-in-Some-3.ensures.names c.reserve-in-Some-3.ensures.err
