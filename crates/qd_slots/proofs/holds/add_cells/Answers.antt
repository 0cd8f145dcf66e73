use Rattle.std.proofs.Common.{◌∙◌, ◌++◌, ◌-◌, ap, sym, arith, vec_len}
use Rattle.qd_slots.specs.Holds.{free_cells}
use Rattle.qd_slots.proofs.HoldLaws.{cells-none, cells-more}
use Rattle.qd_slots.proofs.holds.add_cells.Goals as goal

pub loop-slot-init : goal.loop-slot-init
loop-slot-init c = record {
  items = cells-none c.args.cells.now.items (vec_len c.args.cells.now) ∙ ap (λ n. c.args.cells.now.items ++ free_cells (n - vec_len c.args.cells.now)) (sym c.len-slot.ensures);
  len = sym c.len-slot.ensures;
  room = c.requires.room;
}

pub loop-slot-preserved : goal.loop-slot-preserved
loop-slot-preserved c = record {
  items = cells-more c.args.cells.now.items c.loop-slot.cells.items c.push_free.new.cells.items (vec_len c.args.cells.now) c.loop-slot._slot c.loop-slot.invariant.items c.push_free.ensures.items (omega arith);
  len = omega arith;
  room = omega arith;
}
