use Rattle.std.proofs.Common.{◌≡◌, ◌≤◌, ◌-◌, ◌+◌, ◌++◌, length, vec_len, vec_capacity}
use Rattle.qd_pend.specs.Slots.{EachOnce}
use Rattle.qd_slots.specs.Names.{nones, IsVacant}
use Rattle.qd_slots.proofs.names.add_vacant.Given as goal

abbrev pub invariant-loop-slot : goal.invariant-loop-slot
invariant-loop-slot l = record {
  names : l.names.items ≡ l.initial.names.items ++ nones (l.slot - vec_len l.initial.names);
  len : vec_len l.names ≡ l.slot;
  room : l.slots ≤ vec_capacity l.names;
  vacant : IsVacant l.names.items l.free.list;
  once : EachOnce l.free.list;
  count : length l.free.list ≡ length l.initial.free.list + (l.slot - vec_len l.initial.names);
  numbers : l.free.slots ≡ l.initial.free.slots;
}
