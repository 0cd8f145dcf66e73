use Rattle.std.proofs.Common.{◌≡◌, replicate}
use Rattle.qd_slots.specs.Views.{no_viewing}
use Rattle.qd_slots.proofs.watchers.new_watchers.Given as goal

abbrev pub invariant-loop-watcher : goal.invariant-loop-watcher
invariant-loop-watcher l = l.watchers.items ≡ replicate l._watcher no_viewing
