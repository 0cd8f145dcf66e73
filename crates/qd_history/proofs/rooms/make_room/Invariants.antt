use Rattle.std.proofs.Common.{◌≡◌, drop, vec_len}
use Rattle.qd_history.specs.Rooms.{IsTallied, KeepsTracks, KeepsSides}
use Rattle.qd_history.proofs.rooms.make_room.Given as goal

abbrev pub invariant-loop-e : goal.invariant-loop-e
invariant-loop-e l = record {
  tallied : IsTallied l.hcap l.table l.items (drop l.e-index l.items) l.tally.items l.tracks.list l.sides.items;
  tally : vec_len l.tally ≡ vec_len l.fn.tally;
  tracks : KeepsTracks l.fn.tracks l.tracks;
  sides : KeepsSides l.fn.sides.items l.sides.items;
}
