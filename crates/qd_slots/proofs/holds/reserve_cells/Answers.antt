use Rattle.std.proofs.Common.{◌∙◌, ◌++◌, ◌-◌, ap, vec_len}
use Rattle.qd_slots.specs.Holds.{free_cells}
use Rattle.qd_slots.proofs.HoldLaws.{free-none}
use Rattle.qd_slots.proofs.holds.reserve_cells.Goals as goal

pub returns-then-slots-len-clause-grown : goal.returns-then-slots-len-clause-grown
returns-then-slots-len-clause-grown c = (0, free-none c.args.cells.now.items)

pub returns-in_err-reserve-clause-grown : goal.returns-in_err-reserve-clause-grown
returns-in_err-reserve-clause-grown c = (0, c.reserve.ensures.items ∙ free-none c.args.cells.now.items)

pub returns-clause-grown : goal.returns-clause-grown
returns-clause-grown c = (c.args.slots - vec_len c.reserve.new.self, c.add_cells.ensures.items ∙ ap (λ cs. cs ++ free_cells (c.args.slots - vec_len c.reserve.new.self)) c.reserve.ensures.items)
