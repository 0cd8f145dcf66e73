use Rattle.std.proofs.Common.{drop, length, map, ◌+◌, ◌*◌, ◌++◌, ◌≡◌, ◌≤◌}
use Rattle.qd_grammar.specs.Control.{field_text}
use Rattle.qd_grammar.specs.Canonical.{behind}
use Rattle.qd_text.proofs.put_description.put_fields.Given as goal

abbrev pub invariant-loop-field : goal.invariant-loop-field
invariant-loop-field l = record {
  parts : l.out ++ behind (map field_text (drop l.field-index l.fields)) ≡ l.initial.out ++ behind (map field_text l.fields);
  short : length l.out ≤ length l.initial.out + 55 * l.field-index;
}
