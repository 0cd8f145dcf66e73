use Rattle.std.proofs.Common.{◌≡◌, ◌≤◌, ◌-◌, ◌++◌, vec_len, vec_capacity}
use Rattle.qd_slots.specs.Holds.{free_cells}
use Rattle.qd_slots.proofs.holds.add_cells.Given as goal

abbrev pub invariant-loop-slot : goal.invariant-loop-slot
invariant-loop-slot l = record {
  items : l.cells.items ≡ l.initial.cells.items ++ free_cells (l._slot - vec_len l.initial.cells);
  len : vec_len l.cells ≡ l._slot;
  room : l.slots ≤ vec_capacity l.cells;
}
