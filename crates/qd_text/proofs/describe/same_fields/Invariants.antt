use Rattle.std.proofs.Common.{drop, length, map, ◌+◌, ◌≡◌, ◌≤◌}
use Rattle.qd_text.specs.Cursor.{left}
use Rattle.qd_grammar.specs.Control.{field_text, same_parts}
use Rattle.qd_text.proofs.describe.same_fields.Given as goal

abbrev pub invariant-loop-field : goal.invariant-loop-field
invariant-loop-field l = record {
  same : same_parts (map field_text (drop l.field-index l.fields)) (length l.line + 1) (left l.line l.next) ≡ same_parts (map field_text l.fields) (length l.line + 1) (left l.line l.at);
  order : l.next ≤ length l.line + 1;
}
