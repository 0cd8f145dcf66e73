-- How far a number's fault is from the beginning of its text.
use Rattle.std.specs.Prelude.{◌≤◌}
use Rattle.qd_decimal.specs.declared.fault.DecFault.{DecFault}
use Rattle.qd_decimal.specs.declared.fault.DecFault.TheVariants.{Empty, BadByte, TooFine, TooLarge}

-- no further than the byte behind the longest line
abbrev pub IsNear : DecFault → Type 0
IsNear Empty = Unit {0}
IsNear (BadByte place) = place ≤ 4097
IsNear (TooFine place) = place ≤ 4097
IsNear TooLarge = Unit {0}
