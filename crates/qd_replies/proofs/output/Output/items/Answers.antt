use Rattle.std.proofs.Common.{arith, sym, ◌∙◌}
use Rattle.qd_replies.proofs.Prints.{printing_none, printing_step, printing_past, printing_cut, printing_all}
use Rattle.qd_replies.proofs.output.Output.items.Goals as goal
use Rattle.qd_replies.proofs.output.Output.items.Goals.{then-fits+else-not-one, else-fits}

pub loop-x-init : goal.loop-x-init
loop-x-init g c = printing_none _ _ _ _ _

pub loop-x-preserved : goal.loop-x-preserved
loop-x-preserved g c = elim c.if-fits.branch [
  | then-fits+else-not-one w ↦ rw (w.self-is, w.sink-is, w.last-is) (printing_step g.P.Printer.shown _ _ c.loop-x.x-index c.x-item.result _ _ _ _ _ _ _ _ _ _ _ _ (omega arith) c.x-item.is w.message-message.ensures c.put.ensures c.loop-x.invariant (sym c.fits.ensures ∙ w.if-fits.true) w.if-not-one.ensures)
  | else-fits w ↦ rw (w.self-is, w.sink-is, w.last-is) (printing_past g.P.Printer.shown _ _ c.loop-x.x-index c.x-item.result _ _ _ _ _ _ _ _ (omega arith) c.x-item.is c.put.ensures (sym c.fits.ensures ∙ w.if-fits.false) c.loop-x.invariant)
]

pub returns-then-not-one : goal.returns-then-not-one
returns-then-not-one g c = printing_cut g.P.Printer.shown _ _ c.loop-x.x-index c.x-item.result _ _ _ _ _ c.one.new.self _ _ _ _ _ _ (omega arith) c.x-item.is c.message-message.ensures c.put.ensures c.loop-x.invariant (sym c.fits.ensures ∙ c.if-fits.true) c.if-not-one.ensures

pub returns : goal.returns
returns g c = printing_all g.P.Printer.shown _ _ c.loop-x.x-index _ _ _ _ _ _ _ (omega arith) c.loop-x.invariant
