use Rattle.std.specs.Prelude.{ℕ, ◌≡◌, ◌≤◌, Option, List}
use Rattle.qd_items.specs.Standing.{Past, IsRead}
use Rattle.qd_items.specs.Steps.{WentOn}
use Rattle.qd_items.specs.Work.{work}
use Rattle.qd_items.proofs.items.Items.advance.Given as goal

abbrev pub invariant-steps : goal.invariant-steps
invariant-steps g l = (l.self.mode ≡ l.fn.self.mode) × (g.S.Source.kept l.source ≡ g.S.Source.kept l.fn.source) × (g.S.Source.faults l.source ≡ g.S.Source.faults l.fn.source)
    × (work l.self ≤ work l.fn.self)
    × ((start : Option (List ℕ)) (p : Past) → IsRead l.scheme start l.fn.self p (g.S.Source.left l.fn.source) → WentOn l.scheme start p l.self (g.S.Source.left l.source))

abbrev pub decreases-steps : goal.decreases-steps
decreases-steps g l = work l.self
