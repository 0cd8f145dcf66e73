use Rattle.std.proofs.Common.{◌≡◌, ◌≤◌, ◌<◌, ◌^◌}
use Rattle.qd_decimal.specs.Texts.{fraction_text}
use Rattle.qd_decimal.proofs.writing.without_zeros.Given as goal

abbrev pub invariant-loop-rest : goal.invariant-loop-rest
invariant-loop-rest l = record {
  text : fraction_text l.left l.rest ≡ fraction_text l.places l.part;
  some : 0 < l.rest;
  fits : l.rest < 10 ^ l.left;
  fewer : l.left ≤ l.places;
}

abbrev pub decreases-loop-rest : goal.decreases-loop-rest
decreases-loop-rest l = l.left
