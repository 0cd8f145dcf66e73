use Rattle.std.proofs.Common.{◌≡◌, ◌++◌, take}
use Rattle.qd_replay.proofs.given.append.Given as goal

abbrev pub invariant-loop-item : goal.invariant-loop-item
invariant-loop-item g l = (l.all.items ≡ l.initial.all.items ++ take l.item-index l.part) × (l.all.room ≡ l.initial.all.room)
