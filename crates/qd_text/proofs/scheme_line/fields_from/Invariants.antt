use Rattle.std.proofs.Common.{length, ◌+◌, ◌-◌, ◌≡◌, ◌≤◌}
use Rattle.qd_text.specs.Cursor.{left}
use Rattle.qd_text.specs.SchemeLines.{fields_of}
use Rattle.qd_text.proofs.SchemeFields.{with_fields}
use Rattle.qd_text.proofs.scheme_line.fields_from.Given as goal

abbrev pub invariant-loop-next : goal.invariant-loop-next
invariant-loop-next l = record {
  read : with_fields l.fields (fields_of (left l.line l.next)) ≡ fields_of (left l.line l.at);
  order : l.next ≤ length l.line + 1;
}

abbrev pub decreases-loop-next : goal.decreases-loop-next
decreases-loop-next l = length l.line + 1 - l.next
