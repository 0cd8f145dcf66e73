use Rattle.std.proofs.Common.{◌≡◌, ◌≤◌, ◌-◌, ◌++◌, vec_len, vec_capacity}
use Rattle.qd_slots.specs.Views.{no_views}
use Rattle.qd_slots.proofs.views.add_views.Given as goal

abbrev pub invariant-loop-slot : goal.invariant-loop-slot
invariant-loop-slot l = record {
  items : l.views.items ≡ l.initial.views.items ++ no_views (l._slot - vec_len l.initial.views);
  len : vec_len l.views ≡ l._slot;
  room : l.slots ≤ vec_capacity l.views;
}
