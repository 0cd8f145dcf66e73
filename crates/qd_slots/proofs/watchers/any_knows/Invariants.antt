use Rattle.std.proofs.Common.{◌≡◌, drop}
use Rattle.qd_slots.specs.Views.{is_known_by}
use Rattle.qd_slots.proofs.watchers.any_knows.Given as goal

abbrev pub invariant-loop-w : goal.invariant-loop-w
invariant-loop-w l = is_known_by l.watchers l.slot ≡ is_known_by (drop l.w l.watchers) l.slot
