use Rattle.std.proofs.Common.{◌≡◌, ℕ, length, slice_get, ◌+◌, ◌-◌}
use Rattle.qd_relay.specs.Nodes.{flat}
use Rattle.qd_relay.proofs.node.make_room.Given as goal

abbrev pub invariant-loop-links : goal.invariant-loop-links
invariant-loop-links l = (a : ℕ) → flat (slice_get l.links.items a) ≡ flat (slice_get l.initial.links.items a)

abbrev pub decreases-loop-links : goal.decreases-loop-links
decreases-loop-links l = l.at + 1 - length l.links.items
