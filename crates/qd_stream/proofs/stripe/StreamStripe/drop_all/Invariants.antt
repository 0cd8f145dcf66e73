use Rattle.std.proofs.Common.{ℕ, ◌+◌, length}
use Rattle.qd_stream.specs.Boxes.{box_at}
use Rattle.qd_stream.specs.Stripes.{Shown}
use Rattle.qd_stream.specs.Steps.{DropsAll}
use Rattle.qd_stream.proofs.stripe.StreamStripe.drop_all.Given as goal

abbrev pub invariant-loop-item : goal.invariant-loop-item
invariant-loop-item l = (n : ℕ) (fin : Shown) → DropsAll n l.self l.agent fin → (m : ℕ) × DropsAll m l.initial.self l.agent fin

abbrev pub decreases-loop-item : goal.decreases-loop-item
decreases-loop-item l = length (box_at l.self.boxes l.agent).lost + length (box_at l.self.boxes l.agent).items
