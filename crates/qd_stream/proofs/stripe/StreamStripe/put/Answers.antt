use Rattle.qd_stream.specs.Stripes.{Shown}
use Rattle.qd_stream.proofs.ReadyLaws.{ready-pushed}
use Rattle.qd_stream.proofs.stripe.StreamStripe.put.Goals as goal

pub invariant_of-self : goal.invariant_of-self
invariant_of-self c =
    let s : Shown = record { table = c.self.inside.table; boxes = c.self.inside.boxes } in
    ready-pushed s _ c.push_all.new.boxes c.self.invariant c.push_all.ensures
