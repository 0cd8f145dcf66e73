use Rattle.std.proofs.Common.{◌≡◌, ◌≤◌, ◌<◌, ◌-◌, ◌^◌, List, ℕ, length, vec_len}
use Rattle.qd_outside.specs.Reading.{Took}
use Rattle.qd_scheme_file.specs.Reading.{StandsFor}
use Rattle.qd_scheme_file.proofs.reading.read_all.Given as goal

abbrev pub invariant-pieces : goal.invariant-pieces
invariant-pieces g l = record {
  past : (taken : List ℕ) × StandsFor l.reader l.cutter taken × Took (g.S.Source.left l.fn.source) (g.S.Source.left l.source) taken × (l.taken ≡ length taken) × (length taken ≤ 2 ^ 40);
  room : 0 < vec_len l.piece;
  same : g.S.Source.faults l.source ≡ g.S.Source.faults l.fn.source;
  kept : g.S.Source.kept l.source ≡ g.S.Source.kept l.fn.source;
}

abbrev pub decreases-pieces : goal.decreases-pieces
decreases-pieces g l = 2 ^ 40 - l.taken
