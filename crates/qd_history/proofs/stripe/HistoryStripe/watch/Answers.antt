use Rattle.std.proofs.Common.{take, refl}
use Rattle.std.specs.Prelude.{vec_len}
use Rattle.qd_table.specs.Tables.{queue_of}
use Rattle.qd_hist_stand.specs.Stripes.{Shown}
use Rattle.qd_history.proofs.SoundLaws.{sound-told}
use Rattle.qd_history.proofs.stripe.HistoryStripe.watch.Goals as goal

pub invariant_of-self : goal.invariant_of-self
invariant_of-self c =
    let s : Shown = record { table = c.self.inside.table; tracks = c.self.inside.tracks.list; sides = c.self.inside.sides.items; count = c.self.inside.count; stock = c.self.inside.tracks.stock; hcap = c.self.inside.hcap; base = c.self.inside.base } in
    let t : Shown = record { table = c.watch.new.self; tracks = c.self.inside.tracks.list; sides = c.self.inside.sides.items; count = c.self.inside.count; stock = c.self.inside.tracks.stock; hcap = c.self.inside.hcap; base = c.self.inside.base } in
    sound-told s t (vec_len c.self.inside.tally) c.args.watcher (take c.args.most (queue_of c.self.inside.table c.args.watcher)) c.self.invariant c.watch.ensures.told refl refl refl refl refl
