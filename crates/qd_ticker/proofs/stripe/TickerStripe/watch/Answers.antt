use Rattle.std.proofs.Common.{take}
use Rattle.qd_table.specs.Tables.{queue_of}
use Rattle.qd_ticker.proofs.SoundLaws.{sound-told}
use Rattle.qd_ticker.proofs.stripe.TickerStripe.watch.Goals as goal

pub invariant_of-self : goal.invariant_of-self
invariant_of-self c = sound-told c.self.inside.table c.watch.new.self c.self.inside.lasts.items c.self.inside.queues.items c.args.watcher (take c.args.most (queue_of c.self.inside.table c.args.watcher)) c.self.invariant c.watch.ensures.told
