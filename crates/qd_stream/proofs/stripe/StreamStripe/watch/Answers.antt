use Rattle.qd_stream.specs.Stripes.{Shown}
use Rattle.std.proofs.Common.{take}
use Rattle.qd_table.specs.Tables.{queue_of}
use Rattle.qd_stream.proofs.ReadyLaws.{ready-told}
use Rattle.qd_stream.proofs.stripe.StreamStripe.watch.Goals as goal

pub invariant_of-self : goal.invariant_of-self
invariant_of-self c =
    let s : Shown = record { table = c.self.inside.table; boxes = c.self.inside.boxes } in
    ready-told s c.args.watcher (take c.args.most (queue_of s.table c.args.watcher)) c.watch.new.self c.self.invariant c.watch.ensures.told
