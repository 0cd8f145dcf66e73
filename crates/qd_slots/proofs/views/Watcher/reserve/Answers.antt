use Rattle.std.proofs.Common.{arith}
use Rattle.qd_slots.proofs.ViewLaws.{wider-queue}
use Rattle.qd_slots.proofs.views.Watcher.reserve.Goals as goal

pub returns-in_err-reserve-clause-kept : goal.returns-in_err-reserve-clause-kept
returns-in_err-reserve-clause-kept c =
    wider-queue c.args.self.now c.self.inside.views.items c.self.inside.queue c.reserve.new.self c.self.view_is c.reserve.ensures.list (let e = c.in_err-reserve.ensures.err in omega arith)
