use Rattle.std.proofs.Common.{◌≡◌, List, map, length}
use Rattle.qd_scheme.specs.declared.key.Event.{Event}
use Rattle.qd_load.specs.Counting.{AreFed, FedTo}
use Rattle.qd_load.proofs.views.hear_all.Given as goal

abbrev pub invariant-loop-i : goal.invariant-loop-i
invariant-loop-i l =
    (map (λ s. s.key) l.shelves.items ≡ map (λ s. s.key) l.fn.shelves.items) × (length l.shelves.items ≡ length l.fn.shelves.items)
    × ((past : List Event) → AreFed l.fn.shelves.items past → FedTo l.i l.event l.shelves.items past)
