use Rattle.std.proofs.Common.{◌≡◌, ◌+◌, ◌++◌, All, length, drop}
use Rattle.qd_path.specs.Calls.{asks_up_to}
use Rattle.qd_calls.specs.Dues.{IsDue}
use Rattle.qd_calls.proofs.cutting.push_calls.Given as goal

abbrev pub invariant-loop-stripe : goal.invariant-loop-stripe
invariant-loop-stripe g l = (l.parts.items ≡ drop l.stripe l.initial.parts.items) × (l.stripe + length l.parts.items ≡ l.n)
    × (l.due.items ≡ l.initial.due.items ++ asks_up_to g.T.Keyed.key_of (g.T.Grouped.call_of l.message l.agent) l.n l.items l.stripe)
    × All (IsDue l.n) l.due.items
