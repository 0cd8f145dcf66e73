use Rattle.std.proofs.Common.{sym}
use Rattle.qd_table.proofs.KeyCalls.{ends-more, ends-end, ends-smaller}
use Rattle.qd_table.proofs.table.SubTable.end_all.Goals as goal

pub end-requires : goal.end-requires
end-requires c = c.in-Some.ensures.subscribed

pub loop-slot-init : goal.loop-slot-init
loop-slot-init c = λ t h. h

pub loop-slot-preserved : goal.loop-slot-preserved
loop-slot-preserved c = ends-more c.loop-slot.self c.end.new.self c.args.self.now c.args.agent c.in-Some.slot c.in-Some.ensures.sound (sym c.in-Some.ensures.first) c.in-Some.ensures.subscribed c.end.ensures.ended c.loop-slot.invariant

pub loop-slot-smaller : goal.loop-slot-smaller
loop-slot-smaller c = ends-smaller c.loop-slot.self c.end.new.self c.args.agent c.in-Some.slot c.in-Some.ensures.sound (sym c.in-Some.ensures.first) c.end.ensures.ended

pub returns : goal.returns
returns c = c.loop-slot.invariant c.loop-slot.self (ends-end c.loop-slot.self c.args.agent (sym c.in_default.ensures.first))
