use Rattle.std.proofs.Common.{◌≡◌, ◌≤◌, ◌+◌, [], length}
use Rattle.qd_line.specs.Cutter.{IsTooLong}
use Rattle.qd_scheme_file.specs.Told.{read_on}
use Rattle.qd_scheme_file.proofs.reading.read_lines.Given as goal

abbrev pub invariant-lines : goal.invariant-lines
invariant-lines l = record {
  same_said : read_on l.reader [] l.cutter.left ≡ read_on l.initial.reader [] l.initial.cutter.left;
  long : IsTooLong l.initial.cutter.left → IsTooLong l.cutter.left × (l.reader.lines ≡ l.initial.reader.lines);
  same : l.cutter.line ≡ l.reader.lines;
  few : l.reader.lines + length l.cutter.left ≤ l.initial.reader.lines + length l.initial.cutter.left;
}

abbrev pub decreases-lines : goal.decreases-lines
decreases-lines l = length l.cutter.left
