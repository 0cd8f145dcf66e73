use Rattle.std.proofs.Common.{◌≡◌, ◌≤◌, ◌+◌, ◌-◌, ℕ, length, vec_len}
use Rattle.qd_table.specs.Tables.{limit_for}
use Rattle.qd_hist_stand.specs.Stripes.{floor_in}
use Rattle.qd_hist_stand.specs.Steps.{part_after}
use Rattle.qd_history.specs.Sides.{sided_at, spared_at, HasRoom}
use Rattle.qd_history.proofs.EachSide.{SidedBelow}
use Rattle.qd_history.proofs.sides.follow_all.Given as goal

abbrev pub invariant-loop-number : goal.invariant-loop-number
invariant-loop-number l = record {
  few : l.from ≤ 128;
  len : vec_len l.sides ≡ vec_len l.initial.sides;
  parts : SidedBelow l.table l.slot l.from (λ a. part_after l.hcap l.answer (floor_in (limit_for l.table a l.slot) l.track.state.now.floor) l.track.number l.track.state.now.batch l.slot) l.initial.sides.items l.sides.items;
  room : (a n : ℕ) → HasRoom l.hcap (spared_at (sided_at l.initial.sides.items a) l.slot) (length l.track.state.now.batch + n) → HasRoom l.hcap (spared_at (sided_at l.sides.items a) l.slot) n;
  within : (a : ℕ) → (sided_at l.sides.items a).owed ≤ l.hcap;
}

abbrev pub decreases-loop-number : goal.decreases-loop-number
decreases-loop-number l = 128 - l.from
