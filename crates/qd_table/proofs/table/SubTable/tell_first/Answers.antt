use Rattle.std.proofs.Common.{sym}
use Rattle.qd_table.proofs.KeyCalls.{first-named}
use Rattle.qd_table.proofs.table.SubTable.tell_first.Goals as goal

pub tell-requires : goal.tell-requires
tell-requires c = first-named c.args.self.now c.args.watcher c.in-Some.slot c.first_differing.ensures.sound c.first_differing.ensures.within (sym c.in-Some.ensures.first)

pub returns : goal.returns
returns c = record { slot = c.in-Some.slot; first = sym c.in-Some.ensures.first; told = c.tell.ensures; sound = c.first_differing.ensures.sound; within = c.first_differing.ensures.within }
