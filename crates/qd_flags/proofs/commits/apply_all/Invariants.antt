use Rattle.std.proofs.Common.{◌≡◌, ◌≤◌, ◌+◌, drop}
use Rattle.qd_flags.specs.Following.{all_applied}
use Rattle.qd_flags.proofs.commits.apply_all.Given as goal

abbrev pub invariant-loop-e : goal.invariant-loop-e
invariant-loop-e l = record {
  entries : all_applied l.floor (drop l.e-index l.events) l.entries.entries ≡ all_applied l.floor l.events l.fn.entries.entries;
  spare : l.fn.entries.spare ≤ l.entries.spare + l.e-index;
}
