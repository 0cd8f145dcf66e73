use Rattle.std.proofs.Common.{◌≡◌, List, drop}
use Rattle.qd_scheme.specs.declared.key.Event.{Event}
use Rattle.qd_load.specs.Counting.{IsFed}
use Rattle.qd_load.specs.Given.{with_items}
use Rattle.qd_load.proofs.views.Views.hear_items.Given as goal

abbrev pub invariant-loop-item : goal.invariant-loop-item
invariant-loop-item l = (past : List Event) → IsFed l.fn.self past → (p : List Event) × IsFed l.self p × (with_items (drop l.item-index l.items) p ≡ with_items l.items past)
