use Rattle.std.proofs.Common.{◌≡◌, ◌-◌, ◌++◌, vec_len, vec_capacity, ◌≤◌}
use Rattle.qd_pend.specs.Linked.{nexts, prevs, numbers}
use Rattle.qd_pend.proofs.links.add_free.Given as goal

abbrev pub invariant-loop-place : goal.invariant-loop-place
invariant-loop-place l = record {
  nexts : nexts l.links.items ≡ nexts l.initial.links.items ++ numbers (vec_len l.initial.links) (l.place - vec_len l.initial.links);
  prevs : prevs l.links.items ≡ prevs l.initial.links.items ++ numbers (vec_len l.initial.links) (l.place - vec_len l.initial.links);
  len : vec_len l.links ≡ l.place;
  room : l.places ≤ vec_capacity l.links;
}
