use Rattle.std.proofs.Common.{◌∙◌, ap}
use Rattle.qd_items.specs.Standing.{opening}
use Rattle.qd_session.proofs.Beginnings.{stands_by}
use Rattle.qd_session.proofs.in_engine.InEngine.new.Goals as goal

pub returns-clause-stands : goal.returns-clause-stands
returns-clause-stands c = stands_by c.args.side c.in_ok-new.field-0 c.new-2.result c.new-3.result.items (c.in_ok-new.ensures ∙ ap opening c.mode_of.ensures) c.new-2.ensures c.new-3.ensures.items
