use Rattle.std.proofs.Common.{◌∙◌, ◌++◌, ◌-◌, ap, vec_len}
use Rattle.qd_slots.specs.Views.{no_views}
use Rattle.qd_slots.proofs.ViewLaws.{view-none}
use Rattle.qd_slots.proofs.views.reserve_views.Goals as goal

pub returns-then-slots-len-clause-grown : goal.returns-then-slots-len-clause-grown
returns-then-slots-len-clause-grown c = (0, view-none c.args.views.now.items)

pub returns-in_err-reserve-clause-grown : goal.returns-in_err-reserve-clause-grown
returns-in_err-reserve-clause-grown c = (0, c.reserve.ensures.items ∙ view-none c.args.views.now.items)

pub returns-clause-grown : goal.returns-clause-grown
returns-clause-grown c = (c.args.slots - vec_len c.reserve.new.self, c.add_views.ensures.items ∙ ap (λ cs. cs ++ no_views (c.args.slots - vec_len c.reserve.new.self)) c.reserve.ensures.items)
