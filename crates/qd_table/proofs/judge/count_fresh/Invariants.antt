use Rattle.std.proofs.Common.{◌≡◌, ◌+◌, ◌≤◌, drop, map, length}
use Rattle.indexmap.specs.IndexSet.{spare}
use Rattle.qd_table.specs.Judging.{has_slot, holds_key, fresh_count, seen_or}
use Rattle.qd_table.proofs.judge.count_fresh.Given as goal

abbrev pub invariant-loop-sub : goal.invariant-loop-sub
invariant-loop-sub l = record {
  keys : l.fresh.keys + fresh_count (seen_or l.seen.keys (has_slot l.names.names)) (map (λ s. s.key) (drop l.sub-index l.subs)) ≡ fresh_count (has_slot l.names.names) (map (λ s. s.key) l.subs);
  pairs : l.fresh.pairs + fresh_count (seen_or l.seen.keys (holds_key l.names.names l.holds.cells l.agent)) (map (λ s. s.key) (drop l.sub-index l.subs)) ≡ fresh_count (holds_key l.names.names l.holds.cells l.agent) (map (λ s. s.key) l.subs);
  few_keys : l.fresh.keys ≤ l.sub-index;
  few_pairs : l.fresh.pairs ≤ l.sub-index;
  spare_left : 4096 ≤ spare l.seen + l.sub-index;
  room : 4096 ≤ length l.seen.keys + spare l.seen;
}
