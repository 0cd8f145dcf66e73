use Rattle.std.proofs.Common.{◌≡◌, [], map, take}
use Rattle.qd_load.specs.Counting.{AreFed, script_keys}
use Rattle.qd_load.proofs.views.no_view.Given as goal

abbrev pub invariant-loop-digit : goal.invariant-loop-digit
invariant-loop-digit l = (map (λ s. s.key) l.shelves.items ≡ take l.digit script_keys) × AreFed l.shelves.items []
