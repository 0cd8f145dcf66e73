use Rattle.std.proofs.Common.{ap, sym, ◌∙◌}
use Rattle.qd_path.specs.Calls.{Place}
use Rattle.qd_path.specs.Groups.{size}
use Rattle.qd_calls.proofs.Nothing.{nothing_closed}
use Rattle.qd_calls.proofs.reading.Reading.close.Goals as goal

pub returns-then-is_empty-clause-closed : goal.returns-then-is_empty-clause-closed
returns-then-is_empty-clause-closed c =
    nothing_closed c.args.n c.args.agent c.args.self.now c.args.due.now.items (ap (λ (p : Place). size p.group) (sym c.self.view_is) ∙ c.is_empty.ensures.yes c.if-is_empty.true)
