use Rattle.std.proofs.Common.{◌≡◌, ◌+◌, ◌-◌, ◌*◌, ◌^◌, ◌<◌, ◌≤◌, drop, slice_range}
use Rattle.std.specs.Prelude.{Some}
use Rattle.std.specs.List.{prefix_len}
use Rattle.qd_decimal.specs.Grammar.{is_digit}
use Rattle.qd_decimal.specs.Numbers.{with_digits}
use Rattle.qd_decimal.proofs.digits.short_run.Given as goal

abbrev pub invariant-loop-at : goal.invariant-loop-at
invariant-loop-at l = record {
  same : l.at + prefix_len is_digit (drop l.at l.text) ≡ l.from + prefix_len is_digit (drop l.from l.text);
  number : with_digits (Some l.fn.number) (slice_range l.text l.from l.at) ≡ Some l.value;
  forward : l.from ≤ l.at;
  within : l.at ≤ l.to;
  small : l.value < 1000000000000000000;
  few : l.value + 1 ≤ (l.fn.number + 1) * 10 ^ (l.at - l.from);
}

abbrev pub decreases-loop-at : goal.decreases-loop-at
decreases-loop-at l = l.to - l.at
