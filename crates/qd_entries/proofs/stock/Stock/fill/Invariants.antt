use Rattle.std.proofs.Common.{◌≤◌, ◌+◌, ◌-◌, ◌<◌, ◌^◌}
use Rattle.qd_entries.proofs.stock.Stock.fill.Given as goal

abbrev pub invariant-loop-self : goal.invariant-loop-self
invariant-loop-self l = record { least : l.initial.self.spare ≤ l.self.spare; most : l.self.spare ≤ l.spare; room : l.used + l.spare ≤ l.self.room; few : l.self.room < 2 ^ 32 }

abbrev pub decreases-loop-self : goal.decreases-loop-self
decreases-loop-self l = l.spare - l.self.spare
