use Rattle.std.proofs.Common.{drop, length, ◌+◌, ◌*◌, ◌++◌, ◌≡◌, ◌≤◌}
use Rattle.qd_grammar.specs.Body.{kinds_of}
use Rattle.qd_grammar.specs.Canonical.{behind, cell_texts}
use Rattle.qd_text.proofs.put.put_cells.Given as goal

abbrev pub invariant-loop-i : goal.invariant-loop-i
invariant-loop-i l = record {
  parts : l.out ++ behind (cell_texts (kinds_of (drop l.i l.fields)) (drop l.i l.values)) ≡ l.initial.out ++ behind (cell_texts (kinds_of l.fields) l.values);
  short : length l.out ≤ length l.initial.out + 32 * l.i;
}
