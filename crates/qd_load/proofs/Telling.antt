-- How long the parts of a line are.
use Rattle.std.proofs.Common.{ℕ, ◌≡◌, ◌+◌, ◌≤◌, Bool, true, false, cond, List, ◌++◌, length, ap, arith, length-append}
pub use Rattle.qd_decimal.proofs.Fractions.{count_short}

-- a text that was appended, or was not for want of room
pub either_short : (done : Bool) (old text new : List ℕ) (n : ℕ) → new ≡ cond done (old ++ text) old → length text ≤ n → length new ≤ length old + n
either_short true old text new n e h = omega (arith, ap length e, length-append old text)
either_short false old text new n e h = omega (arith, ap length e)
