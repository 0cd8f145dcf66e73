use Rattle.qd_table.proofs.KeyCalls.{goes-more, goes-end, kept-fewer}
use Rattle.qd_table.proofs.table.SubTable.let_all_go.Goals as goal

pub loop-slot-init : goal.loop-slot-init
loop-slot-init c = λ t h. h

pub loop-slot-preserved : goal.loop-slot-preserved
loop-slot-preserved c = λ t h. c.loop-slot.invariant t (goes-more c.loop-slot.self c.let_go_at.new.self c.args.agent c.in-Some.slot t c.in-Some.ensures.kept c.let_go_at.ensures h)

pub loop-slot-smaller : goal.loop-slot-smaller
loop-slot-smaller c = kept-fewer c.loop-slot.self c.let_go_at.new.self c.args.agent c.in-Some.slot c.in-Some.ensures.sound c.in-Some.ensures.kept c.let_go_at.ensures

pub returns : goal.returns
returns c =
    let g = c.loop-slot.invariant c.loop-slot.self (goes-end c.loop-slot.self c.args.agent) in
    record { slots = g.slots; gone = g.gone; none = c.in_default.ensures.none }
