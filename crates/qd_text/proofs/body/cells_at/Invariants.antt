use Rattle.std.proofs.Common.{drop, length, ◌+◌, ◌≡◌, ◌≤◌}
use Rattle.qd_grammar.specs.Body.{kinds_of}
use Rattle.qd_grammar.specs.Fields.{cells_at}
use Rattle.qd_text.specs.Cursor.{left}
use Rattle.qd_text.proofs.Cells.{with_cells}
use Rattle.qd_text.proofs.body.cells_at.Given as goal

abbrev pub invariant-loop-field : goal.invariant-loop-field
invariant-loop-field l = record {
  read : with_cells l.cells (cells_at (kinds_of (drop l.field-index l.fields)) (length l.line + 1) (left l.line l.next)) ≡ cells_at (kinds_of l.fields) (length l.line + 1) (left l.line l.at);
  count : length l.cells ≡ l.field-index;
  order : l.next ≤ length l.line + 1;
}
