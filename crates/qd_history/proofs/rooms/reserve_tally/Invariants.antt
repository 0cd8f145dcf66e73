use Rattle.std.proofs.Common.{◌≤◌, vec_len}
use Rattle.qd_history.proofs.rooms.reserve_tally.Given as goal

abbrev pub invariant-loop-slot : goal.invariant-loop-slot
invariant-loop-slot l = record {
  kept : vec_len l.initial.tally ≤ vec_len l.tally;
  more : l._slot ≤ vec_len l.tally;
}
